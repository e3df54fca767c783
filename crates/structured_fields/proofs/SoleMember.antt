-- A dictionary that is one byte sequence.
use Rattle.std.proofs.Common.{◌≡◌, ℕ, true, inl, List, [], ◌∷◌, ◌++◌, length, take, drop, get_or, Option, Some, None, Result, Ok, Err, Bor, refl, sym, ap, subst, ◌∙◌, ◌≤◌, ◌-◌, suc, arith}
use Rattle.std.specs.Option.{IfSome}
use Rattle.std.specs.Result.{result_ok}
use Rattle.std.proofs.lemmas.List.{append-nil}
use Rattle.base64.specs.GeneralPurpose.{IsBytes}
use Rattle.base64.proofs.EngineFacts.{front_bytes}
use Rattle.structured_fields.specs.declared.bare.Bare.TheVariants.{Binary}
use Rattle.structured_fields.specs.declared.fault.FieldFault.{FieldFault}
use Rattle.structured_fields.specs.Letters.{is_key}
use Rattle.structured_fields.specs.Grammar.{IsBinary, IsItem, IsDictionaryText}
use Rattle.structured_fields.specs.Reading.{Gives, decoded, dictionary_of}
use Rattle.structured_fields.specs.SoleMember.{sole_text, sole_sequence}
use Rattle.structured_fields.proofs.Bares.{rest_bytes}
use Rattle.structured_fields.proofs.Base64.{decoded_takes}
use Rattle.structured_fields.proofs.Whole.{dictionary_of_again}

abbrev sequence_text : List ℕ → List ℕ
sequence_text coded = 58 ∷ (coded ++ 58 ∷ [])

module _ (key coded bytes : List ℕ) (is : is_key key ≡ true) (binary : IsBinary (sequence_text coded) bytes) where
  item : IsItem (sequence_text coded) (record { bare = Binary bytes; params = [] })
  item = record { bare_text = sequence_text coded; params_text = []; is = sym (append-nil (sequence_text coded)); bare = binary; params = ([], refl, refl) }

  pub sole_is_text : IsDictionaryText (sole_text key coded) (sole_sequence key bytes)
  sole_is_text = record {
    entries = sole_sequence key bytes;
    is = record {
      before = 0;
      body = sole_text key coded;
      after = [];
      is = sym (append-nil (sole_text key coded));
      members = (
        sole_text key coded,
        [],
        sym (append-nil (sole_text key coded)),
        record { rest = 61 ∷ sequence_text coded; key = is; is = refl; member = inl (record { member_text = sequence_text coded; is = refl; member = item }) },
        refl,
      );
      end = refl;
    };
    value = refl;
  }

pub sole_is_read : (key coded bytes : List ℕ) → IsBytes (sole_text key coded) → decoded coded ≡ Some bytes → is_key key ≡ true
    → dictionary_of (sole_text key coded) ≡ Some (sole_sequence key bytes)
sole_is_read key coded bytes fits e is =
    let between : IsBytes coded = front_bytes coded (58 ∷ []) (rest_bytes (61 ∷ 58 ∷ []) (coded ++ 58 ∷ []) (rest_bytes key (61 ∷ sequence_text coded) fits)) in
    let d = decoded_takes coded bytes between e in
    dictionary_of_again (sole_text key coded) (sole_sequence key bytes) (sole_is_text key coded bytes is
    (record { bytes = d.bytes; padded = d.padded; is = ap sequence_text d.is }))

-- the same of what was decoded
pub read_if_key : (key text coded : List ℕ) (r : Result (List ℕ) FieldFault) (o : Option (List ℕ)) → IsBytes text → text ≡ sole_text key coded
    → Gives (λ b. b) r (decoded coded) → o ≡ result_ok r → is_key key ≡ true
    → IfSome o (λ bytes. dictionary_of text ≡ Some (sole_sequence key bytes))
read_if_key key text coded (Err e) o fits whole gives ok is = rw ok tt
read_if_key key text coded (Ok bytes) o fits whole gives ok is =
    rw (ok, whole) (sole_is_read key coded bytes (subst IsBytes whole fits) gives is)

-- what stands between the colons behind the key
pub coded_behind : (key text value : List ℕ) (o : Option (Bor (List ℕ))) → text ≡ key ++ value → IfSome o (λ coded. value ≡ sole_text [] coded.now)
    → IfSome o (λ coded. text ≡ sole_text key coded.now)
coded_behind key text value None parts h = tt
coded_behind key text value (Some coded) parts h = parts ∙ ap (λ (v : List ℕ). key ++ v) h

-- a text by its first two bytes and its last
last_apart : (c : ℕ) (r : List ℕ) → c ∷ r ≡ take (length r) (c ∷ r) ++ get_or (c ∷ r) (length r) 0 ∷ []
last_apart c [] = refl
last_apart c (d ∷ r) = ap (λ (t : List ℕ). c ∷ t) (last_apart d r)

pub colons_are : (value : List ℕ) → 3 ≤ length value → get_or value 0 0 ≡ 61 → get_or value 1 0 ≡ 58 → get_or value (length value - 1) 0 ≡ 58
    → value ≡ sole_text [] (take (length value - 1 - 2) (drop 2 value))
colons_are [] long first second last = absurd (omega arith)
colons_are (a ∷ []) long first second last = absurd (omega arith)
colons_are (a ∷ b ∷ []) long first second last = absurd (omega arith)
colons_are (a ∷ b ∷ c ∷ r) long first second last =
    let at : length (a ∷ b ∷ c ∷ r) - 1 ≡ suc (suc (length r)) = omega arith in
    let len : length (a ∷ b ∷ c ∷ r) - 1 - 2 ≡ length r = omega arith in
    let colon : get_or (c ∷ r) (length r) 0 ≡ 58 = sym (ap (λ (k : ℕ). get_or (a ∷ b ∷ c ∷ r) k 0) at) ∙ last in
    let rest : c ∷ r ≡ take (length r) (c ∷ r) ++ 58 ∷ [] = last_apart c r ∙ ap (λ (d : ℕ). take (length r) (c ∷ r) ++ d ∷ []) colon in
    let whole : a ∷ b ∷ c ∷ r ≡ 61 ∷ 58 ∷ (take (length r) (c ∷ r) ++ 58 ∷ []) = λ i. first i ∷ second i ∷ rest i in
    whole ∙ ap (λ (n : ℕ). 61 ∷ 58 ∷ (take n (c ∷ r) ++ 58 ∷ [])) (sym len)
