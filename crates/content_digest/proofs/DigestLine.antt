-- The field that is written fits its body.
use Rattle.std.proofs.Common.{◌≡◌, ℕ, List, [], ◌∷◌, ◌++◌, Ok, refl, sym, ap, ◌∙◌, subst}
use Rattle.std.specs.Prelude.{codes}
use Rattle.std.proofs.lemmas.List.{append-nil}
use Rattle.base64.specs.GeneralPurpose.{encode_of}
use Rattle.base64.specs.Engines.{standard}
use Rattle.sha2.specs.Sha256.{sha256}
use Rattle.structured_fields.specs.declared.bare.Bare.TheVariants.{Binary}
use Rattle.structured_fields.specs.declared.item.Member.{Member}
use Rattle.structured_fields.specs.declared.item.Member.TheVariants.{Item as Single}
use Rattle.structured_fields.specs.Grammar.{IsDictionaryText}
use Rattle.structured_fields.specs.Canonical.{dictionary_text}
use Rattle.structured_fields.proofs.Written.{dictionary_text_is}
use Rattle.content_digest.specs.Digest.{digest_text}
use Rattle.content_digest.specs.Judged.{Fits, checked}
use Rattle.content_digest.proofs.DigestBytes.{sha_bytes}
use Rattle.content_digest.proofs.Judging.{fits_checked}

abbrev entry : List ℕ → List ℕ × Member
entry body = (codes "sha-256", Single (record { bare = Binary (sha256 body); params = [] }))

line_is : (body : List ℕ) → digest_text body ≡ dictionary_text (entry body ∷ [])
line_is body =
    let name : List ℕ = codes "sha-256" in
    let value : List ℕ = 61 ∷ 58 ∷ encode_of standard (sha256 body) ++ 58 ∷ [] in
    ap (λ (t : List ℕ). name ++ t) (sym (append-nil value)) ∙ sym (append-nil (name ++ (value ++ [])))

pub line_fits : (body : List ℕ) → Fits (digest_text body) body
line_fits body = record {
  dictionary = entry body ∷ [];
  is = subst (λ (t : List ℕ). IsDictionaryText t (entry body ∷ [])) (sym (line_is body))
      (dictionary_text_is (entry body ∷ [])
      (record { entries = ((refl, record { bare = sha_bytes body; params = tt; distinct = tt }), tt); distinct = (refl, tt) }));
  all = (refl, tt);
  some = refl;
}

-- so it passes
pub line_checked : (field body : List ℕ) → field ≡ digest_text body → checked field body ≡ Ok tt
line_checked field body e = ap (λ (t : List ℕ). checked t body) e ∙ fits_checked (digest_text body) body (line_fits body)
