-- Who signs has a key of the setup, whose id is a text, and its mark fits.
use Rattle.std.proofs.Common.{◌≡◌, ℕ, Bool, true, false, List, [], ◌∷◌, length, map, Option, Some, None, Result, Ok, Err, IfSome, refl, sym, ap, subst}
use Rattle.std.specs.Prelude.{nat_lt, nat_le, if◌then◌else◌, codes}
use Rattle.std.specs.List.{AllByRecursion}
use Rattle.std.specs.Str.{bytes_eq, IsUtf8}
use Rattle.std.proofs.lemmas.Bool.{and_parts, leb-true, ltb-true}
use Rattle.std.proofs.lemmas.Slice.Eq.{bytes_eq-Decides}
use Rattle.bytes_and_lists.specs.declared.message.Message.{Message}
use Rattle.structured_fields.specs.Named.{value_at}
use Rattle.message_signature.specs.declared.fault.SigFault.{SigFault}
use Rattle.message_signature.specs.declared.marks.SignatureMark.{SignatureMark}
use Rattle.message_signature.specs.Marks.{longest_nonce, latest_created, mark_of}
use Rattle.message_signature.specs.Marked.{with_mark, verified_marked}
use Rattle.message_signature.specs.Verified.{verified}
use Rattle.message_signature.proofs.VerifiedParts.{verified_key}
use Rattle.gnap_model.specs.Common.{Text}
use Rattle.gnap_model.specs.declared.objects.KeyRow.{KeyRow}
use Rattle.gnap_model.specs.declared.objects.Setup.{Setup}
use Rattle.gnap_objects.specs.Fits.{KeyFits}
use Rattle.gnap_objects.specs.Setups.{IsSetup}
use Rattle.grant_machine.specs.Gnap.{MarkFits}
use Rattle.as_requests.specs.Rings.{secrets_of}
use Rattle.as_requests.specs.Signers.{call_mark, signer_with, SignerFits}
use Rattle.as_requests.proofs.MarkSizes.{HasSizes, mark_fits}

id_text : (ks : List KeyRow) (id secret : Text) → AllByRecursion KeyFits ks → value_at (map (λ k. (k.id, k.secret)) ks) id ≡ Some secret → IsUtf8 id
id_text [] id secret fit e = absurd cc
id_text (k ∷ ks) id secret fit e = by (bytes_eq id k.id) refl e (id_text ks id secret fit.1)
  where
    secrets : List (Text × Text)
    secrets = map (λ k. (k.id, k.secret)) ks

    by : (b : Bool) → bytes_eq id k.id ≡ b → (if b then Some k.secret else value_at secrets id) ≡ Some secret → (value_at secrets id ≡ Some secret → IsUtf8 id)
        → IsUtf8 id
    by true same e others = subst IsUtf8 (sym ((bytes_eq-Decides id k.id).0 same)) fit.0.id
    by false other e others = others e

pub signer_text : (setup : Setup) (m : Message) (moment : ℕ) (id : Text) → IsSetup setup
    → verified m setup.base (secrets_of setup) moment (codes "gnap") ≡ Ok id → IsUtf8 id
signer_text setup m moment id is e =
    let known = verified_key m setup.base (secrets_of setup) moment (codes "gnap") id e in
    id_text setup.keys id known.0 is.fits.keys known.1

-- ---- the mark

-- the id, and the mark, that were answered
abbrev id_in : Text → Result (Text × Option SignatureMark) SigFault → Text
id_in other (Ok pair) = pair.0
id_in other (Err fault) = other

abbrev mark_in : Option SignatureMark → Result (Text × Option SignatureMark) SigFault → Option SignatureMark
mark_in other (Ok pair) = pair.1
mark_in other (Err fault) = other

-- the id and the mark of a message are those that were verified together
parts_of : (mark found : Option SignatureMark) (id : Result Text SigFault) (key : Text) → with_mark mark id ≡ Ok (key, found) → (id ≡ Ok key) × (mark ≡ found)
parts_of mark found (Ok id) key e =
    let same : id ≡ key = ap (id_in key) e in
    (cc, ap (mark_in found) e)
parts_of mark found (Err fault) key e = absurd cc

sizes_fit : (mark : SignatureMark) → HasSizes mark → MarkFits (Some (call_mark mark))
sizes_fit mark has =
    let both = and_parts (nat_lt 0 (length mark.nonce)) (nat_le (length mark.nonce) longest_nonce) has.0 in
    (ltb-true 0 (length mark.nonce) both.0, leb-true (length mark.nonce) longest_nonce both.1, leb-true mark.created latest_created has.1)

pub marked_fits : (setup : Setup) (m : Message) (moment : ℕ) (key : Text) (found : Option SignatureMark) → IsSetup setup
    → verified_marked m setup.base (secrets_of setup) moment (codes "gnap") ≡ Ok (key, found) → IfSome (signer_with key true found) SignerFits
marked_fits setup m moment key None is e = tt
marked_fits setup m moment key (Some mark) is e =
    let parts = parts_of (mark_of m (codes "gnap")) (Some mark) (verified m setup.base (secrets_of setup) moment (codes "gnap")) key e in
    (signer_text setup m moment key is parts.0, sizes_fit mark (mark_fits m (codes "gnap") mark parts.1))
