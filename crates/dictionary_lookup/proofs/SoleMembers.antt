-- A text that is one byte sequence under a key.
use Rattle.std.proofs.Common.{◌≡◌, ℕ, ◌==◌, true, length, List, [], Some, refl, sym, ap, subst, ◌∙◌, ◌++◌}
use Rattle.std.specs.Option.{option_map}
use Rattle.std.specs.Str.{bytes_eq}
use Rattle.std.proofs.lemmas.List.{append-nil, nil_from_length}
use Rattle.std.proofs.lemmas.Bool.{eqb-true}
use Rattle.std.proofs.lemmas.Slice.Eq.{bytes_eq-Decides}
use Rattle.structured_fields.specs.declared.bare.Bare.TheVariants.{Binary}
use Rattle.structured_fields.specs.Letters.{is_key}
use Rattle.structured_fields.specs.Named.{value_at}
use Rattle.structured_fields.specs.Reading.{key_at, dictionary_of}
use Rattle.structured_fields.specs.SoleMember.{sole_sequence}
use Rattle.structured_fields.proofs.Bares.{key_takes}
use Rattle.dictionary_lookup.specs.Skipping.{bare_found}

-- nothing stands behind the key at the front of these bytes: they are a key
whole_key : (key name behind : List ℕ) → key_at key ≡ Some (name, behind) → (length behind == 0) ≡ true → is_key key ≡ true
whole_key key name behind read empty =
    let none : behind ≡ [] = nil_from_length behind (eqb-true (length behind) 0 empty) in
    let k = key_takes key (name, behind) read in
    let same : name ≡ key = sym (k.parts ∙ ap (λ (t : List ℕ). name ++ t) none ∙ append-nil name) in
    subst (λ (t : List ℕ). is_key t ≡ true) same k.key

pub sole_found : (text key name behind bytes : List ℕ) → key_at key ≡ Some (name, behind) → (length behind == 0) ≡ true
    → (is_key key ≡ true → dictionary_of text ≡ Some (sole_sequence key bytes))
    → option_map (λ d. bare_found (value_at d key)) (dictionary_of text) ≡ Some (Some (Binary bytes))
sole_found text key name behind bytes read empty reads =
    let found : bytes_eq key key ≡ true = (bytes_eq-Decides key key).1 refl in
    rw (reads (whole_key key name behind read empty), found) refl
