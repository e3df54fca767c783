-- Base64 between colons.
use Rattle.std.proofs.Common.{◌≡◌, ℕ, zero, suc, ◌+◌, ◌<◌, ◌*◌, ◌/◌, ◌%◌, Bool, true, false, cond, List, [], ◌∷◌, length, get_or, replicate, Option, Some, None, Result, Ok, Err, refl, sym, ap, subst, ◌∙◌, arith}
use Rattle.std.proofs.lemmas.Bool.{and_parts}
use Rattle.std.specs.List.{list_all}
use Rattle.std.specs.Result.{result_ok}
use Rattle.std.proofs.lemmas.Bool.Decides.{nat_tests}
use Rattle.std.proofs.lemmas.List.Folds.{list_all-append}
use Rattle.base64.specs.declared.decode.DecodeError.{DecodeError}
use Rattle.base64.specs.Rfc4648.{encode_symbols, padding_len}
use Rattle.base64.specs.Decode.{decode_outcome}
use Rattle.base64.specs.GeneralPurpose.{encode_of, decode_of, decoded_of, decoded_bytes_of, IsBytes}
use Rattle.base64.specs.Engines.{standard, standard_no_pad}
use Rattle.base64.proofs.EngineFacts.{decode_of-encode_of, decode_of_strict}
use Rattle.structured_fields.specs.Reading.{is_byte, only_bytes, or_some, decoded, is_not_colon}
use Rattle.structured_fields.proofs.Fronts.{given, some_is}

pub bytes_pass : (b : List ℕ) → IsBytes b → list_all is_byte b ≡ true
bytes_pass [] h = refl
bytes_pass (c ∷ b) h =
    let first : c < 256 = h 0 in
    let test : is_byte c ≡ true = grind (arith, nat_tests) in
    rw test (bytes_pass b (λ i. h (suc i)))

pub pass_bytes : (b : List ℕ) → list_all is_byte b ≡ true → IsBytes b
pass_bytes [] e i = omega arith
pass_bytes (c ∷ b) e zero = let t = (and_parts (is_byte c) (list_all is_byte b) e).0 in grind (arith, nat_tests, t)
pass_bytes (c ∷ b) e (suc i) = pass_bytes b (and_parts (is_byte c) (list_all is_byte b) e).1 i

pub only_bytes_some : (b : List ℕ) → IsBytes b → only_bytes (Some b) ≡ Some b
only_bytes_some b h = rw (bytes_pass b h) refl

-- ---- the code's answers

pub decoded_first : (s b : List ℕ) → decode_of standard s ≡ Ok b → IsBytes b → decoded s ≡ Some b
unfolding decoded decoded_of
decoded_first s b ok bytes = rw (ok) (only_bytes_some b bytes)

-- a text that isn't padded
pub decoded_unpadded : (s : List ℕ) (d : DecodeError) → decode_of standard s ≡ Err d → decoded s ≡ only_bytes (decoded_of standard_no_pad s)
unfolding decoded decoded_of
decoded_unpadded s d first = rw (first) refl

pub unpadded_first : (s b : List ℕ) → decode_of standard_no_pad s ≡ Ok b → IsBytes b → only_bytes (decoded_of standard_no_pad s) ≡ Some b
unfolding decoded_of
unpadded_first s b ok bytes = rw (ok) (only_bytes_some b bytes)

pub decoded_second : (s b : List ℕ) (d : DecodeError) → decode_of standard s ≡ Err d → decode_of standard_no_pad s ≡ Ok b → IsBytes b → decoded s ≡ Some b
decoded_second s b d first ok bytes = decoded_unpadded s d first ∙ unpadded_first s b ok bytes

-- ---- the laws

outcome : (x : Option DecodeError) (d b : List ℕ) → decode_outcome x d ≡ Ok b → b ≡ d
outcome None d b h = cc
outcome (Some e) d b h = absurd cc

-- both engines have one table
same_bytes : (s a b : List ℕ) → decode_of standard s ≡ Ok a → decode_of standard_no_pad s ≡ Ok b → a ≡ b
same_bytes s a b first second = outcome _ (decoded_bytes_of standard s) a first ∙ sym (outcome _ (decoded_bytes_of standard s) b second)

pub padded_again : (b : List ℕ) → IsBytes b → decoded (encode_of standard b) ≡ Some b
padded_again b bytes = decoded_first (encode_of standard b) b (decode_of-encode_of standard b refl bytes) bytes

pub bare_again : (b : List ℕ) → IsBytes b → decoded (encode_of standard_no_pad b) ≡ Some b
bare_again b bytes = by (decode_of standard (encode_of standard_no_pad b)) refl
  where
    by : (r : Result (List ℕ) DecodeError) → decode_of standard (encode_of standard_no_pad b) ≡ r → decoded (encode_of standard_no_pad b) ≡ Some b
    by (Ok a) e =
        let ok = decode_of-encode_of standard_no_pad b refl bytes in
        let same : a ≡ b = same_bytes (encode_of standard_no_pad b) a b e ok in
        decoded_first (encode_of standard_no_pad b) b (e ∙ ap (λ (d : List ℕ). Ok d) same) bytes
    by (Err d) e = decoded_second (encode_of standard_no_pad b) b d e (decode_of-encode_of standard_no_pad b refl bytes) bytes

pub record TakesBase64 (s b : List ℕ) : Type 0 where
  pub bytes : IsBytes b
  pub padded : Bool
  pub is : s ≡ encode_of (cond padded standard standard_no_pad) b

only_given : (o : Option (List ℕ)) (b : List ℕ) → only_bytes o ≡ Some b → (o ≡ Some b) × IsBytes b
only_given None b e = absurd cc
only_given (Some a) b e =
    let g = given (list_all is_byte a) (Some a) b e in
    (g.1, subst IsBytes (some_is a b g.1) (pass_bytes a g.0))

decoded_given : (s b : List ℕ) → decoded s ≡ Some b
    → (or_some (result_ok (decode_of standard s)) (result_ok (decode_of standard_no_pad s)) ≡ Some b) × IsBytes b
unfolding decoded decoded_of
decoded_given s b e = only_given (or_some (result_ok (decode_of standard s)) (result_ok (decode_of standard_no_pad s))) b e

pub decoded_takes : (s b : List ℕ) → IsBytes s → decoded s ≡ Some b → TakesBase64 s b
decoded_takes s b fits e =
    let o = decoded_given s b e in
    by (decode_of standard s) (decode_of standard_no_pad s) refl refl o.0 o.1
  where
    by : (x y : Result (List ℕ) DecodeError) → decode_of standard s ≡ x → decode_of standard_no_pad s ≡ y → or_some (result_ok x) (result_ok y) ≡ Some b
        → IsBytes b → TakesBase64 s b
    by (Ok a) y p q h bytes = record
        { bytes = bytes; padded = true; is = decode_of_strict standard s b (refl, refl) fits (p ∙ ap (λ (d : List ℕ). Ok d) (some_is a b h)) }
    by (Err d) (Ok a) p q h bytes = record
        { bytes = bytes; padded = false; is = decode_of_strict standard_no_pad s b (refl, refl) fits (q ∙ ap (λ (d : List ℕ). Ok d) (some_is a b h)) }
    by (Err d) (Err f) _ _ h _ = absurd cc

-- ---- no colon stands in base64

table_passes : (p : ℕ → Bool) (t : List ℕ) → list_all p t ≡ true → p 0 ≡ true → (k : ℕ) → p (get_or t k 0) ≡ true
table_passes p [] all none k = none
table_passes p (c ∷ t) all none zero = (and_parts (p c) (list_all p t) all).0
table_passes p (c ∷ t) all none (suc k) = table_passes p t (and_parts (p c) (list_all p t) all).1 none k

symbols_pass : (p : ℕ → Bool) (t m : List ℕ) → ((k : ℕ) → p (get_or t k 0) ≡ true) → list_all p (encode_symbols t m) ≡ true
unfolding encode_symbols
symbols_pass p t [] h = refl
symbols_pass p t (a ∷ []) h = rw (h (a / 4), h (a % 4 * 16)) refl
symbols_pass p t (a ∷ b ∷ []) h = rw (h (a / 4), h (a % 4 * 16 + b / 16), h (b % 16 * 4)) refl
symbols_pass p t (a ∷ b ∷ c ∷ m) h = rw (h (a / 4), h (a % 4 * 16 + b / 16), h (b % 16 * 4 + c / 64), h (c % 64)) (symbols_pass p t m h)

padding_passes : (n : ℕ) → list_all is_not_colon (replicate n 61) ≡ true
padding_passes zero = refl
padding_passes (suc n) = padding_passes n

pub no_colon : (padded : Bool) (b : List ℕ) → list_all is_not_colon (encode_of (cond padded standard standard_no_pad) b) ≡ true
no_colon true b =
    list_all-append is_not_colon (encode_symbols standard.encode_table b) (replicate (padding_len (length b)) 61)
    ∙ rw (
      symbols_pass is_not_colon standard.encode_table b (table_passes is_not_colon standard.encode_table refl refl),
      padding_passes
          (padding_len (length b)),
    ) refl
no_colon false b =
    list_all-append is_not_colon (encode_symbols standard.encode_table b) []
    ∙ rw (symbols_pass is_not_colon standard.encode_table b (table_passes is_not_colon standard.encode_table refl refl)) refl
