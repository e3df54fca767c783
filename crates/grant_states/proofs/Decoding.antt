-- The front of a drawn value decodes into 9 bytes that begin with its serial.
use Rattle.std.proofs.Common.{ℕ, zero, suc, ◌*◌, false, ◌≡◌, ◌<◌, ◌^◌, List, ◌++◌, take, Ok, Err, Option, Some, None, length, refl, ◌∙◌, ap, arith}
use Rattle.std.specs.Prelude.{nat_lt, if◌then◌else◌}
use Rattle.std.specs.Int.{from_be_bytes, to_be_bytes, w64}
use Rattle.std.proofs.lemmas.Nat.{from_be_bytes-to_be_bytes_8}
use Rattle.base64.specs.declared.DecodeError.{DecodeError}
use Rattle.base64.specs.declared.DecodeSliceError.TheVariants.{OutputSliceTooSmall}
use Rattle.base64.specs.Decode.{or_else, or_error, decode_outcome, bytes_fit, groups_before_last, lone_error, groups_error, suffix_error}
use Rattle.base64.specs.Engines.{url_safe_no_pad}
use Rattle.base64.specs.GeneralPurpose.{IsBytes, encode_of, decode_of, decode_slice_of, decoded_bytes_of}
use Rattle.base64.specs.Rfc4648.{encode_symbols}
use Rattle.base64.proofs.EngineFacts.{decode_of-encode_of}
use Rattle.gnap_model.specs.Common.{Text}
use Rattle.gnap_model.specs.Values.{value_text}

outcome_ok : (x : Option DecodeError) (d b : List ℕ) → decode_outcome x d ≡ Ok b → (x ≡ None) × (d ≡ b)
outcome_ok None d b h = (refl, cc h)
outcome_ok (Some e) d b h = cc h

no_error : (x y : Option DecodeError) → or_else x y ≡ None → (x ≡ None) × (y ≡ None)
no_error None y h = (refl, h)
no_error (Some e) y h = cc h

-- decoding 12 letters into 9 bytes gives what decoding gives, where that is 9 bytes
slice_ok : (text bytes : List ℕ) → length text ≡ 12 → length bytes ≡ 9 → decode_of url_safe_no_pad text ≡ Ok bytes
    → (decode_slice_of url_safe_no_pad text 9 ≡ Ok 9) × (decoded_bytes_of url_safe_no_pad text ≡ bytes)
slice_ok text bytes long many ok =
    let lone = lone_error url_safe_no_pad.decode_table url_safe_no_pad.padding.value text in
    let rest = or_else (groups_error url_safe_no_pad.decode_table text (groups_before_last (length text)))
    (suffix_error url_safe_no_pad.decode_table url_safe_no_pad.padding.value url_safe_no_pad.config.decode_allow_trailing_bits
    url_safe_no_pad.config.decode_padding_mode (4 * groups_before_last (length text)) text) in
    let parts = outcome_ok (or_else lone rest) (decoded_bytes_of url_safe_no_pad text) bytes ok in
    let none = no_error lone rest parts.0 in
    let room : nat_lt 3 (groups_before_last (length text)) ≡ false = ap (λ n. nat_lt 3 (groups_before_last n)) long in
    let size : length (decoded_bytes_of url_safe_no_pad text) ≡ 9 = ap (length {A = ℕ}) parts.1 ∙ many in
    let first : or_error lone (if nat_lt 3 (groups_before_last (length text)) then Err OutputSliceTooSmall else or_error rest
    (bytes_fit (length (decoded_bytes_of url_safe_no_pad text)) 9)) ≡ Ok 9 =
    ap (λ (x : Option DecodeError). or_error x
    (if nat_lt 3 (groups_before_last (length text)) then Err OutputSliceTooSmall else or_error rest
    (bytes_fit (length (decoded_bytes_of url_safe_no_pad text)) 9))) none.0
    ∙ ap (λ b. if b then Err OutputSliceTooSmall else or_error rest (bytes_fit (length (decoded_bytes_of url_safe_no_pad text)) 9)) room
    ∙ ap (λ (x : Option DecodeError). or_error x (bytes_fit (length (decoded_bytes_of url_safe_no_pad text)) 9)) none.1
    ∙ ap (λ n. bytes_fit n 9) size in
    (first, parts.1)

-- the bytes that the first letters of a value write: the serial, and one more
abbrev pub nine : (s a : ℕ) → List ℕ
nine s a = to_be_bytes w64 s ++ take 1 (to_be_bytes w64 a)

nine_bytes : (s a : ℕ) → IsBytes (nine s a)
nine_bytes s a zero = omega arith
nine_bytes s a (suc zero) = omega arith
nine_bytes s a (suc (suc zero)) = omega arith
nine_bytes s a (suc (suc (suc zero))) = omega arith
nine_bytes s a (suc (suc (suc (suc zero)))) = omega arith
nine_bytes s a (suc (suc (suc (suc (suc zero))))) = omega arith
nine_bytes s a (suc (suc (suc (suc (suc (suc zero)))))) = omega arith
nine_bytes s a (suc (suc (suc (suc (suc (suc (suc zero))))))) = omega arith
nine_bytes s a (suc (suc (suc (suc (suc (suc (suc (suc zero)))))))) = omega arith
nine_bytes s a (suc (suc (suc (suc (suc (suc (suc (suc (suc i))))))))) = omega arith

front_written : (s a b : ℕ) → take 12 (value_text s a b) ≡ encode_of url_safe_no_pad (nine s a)
unfolding value_text encode_symbols
front_written s a b = refl

-- The front of a drawn value decodes, and the bytes begin with its serial.
pub value_decoded : (text : List ℕ) (s a b : ℕ) → text ≡ value_text s a b
    → (decode_slice_of url_safe_no_pad (take 12 text) 9 ≡ Ok 9) × (decoded_bytes_of url_safe_no_pad (take 12 text) ≡ nine s a)
unfolding encode_symbols
value_decoded text s a b e =
    let front : take 12 text ≡ encode_of url_safe_no_pad (nine s a) = ap (take {A = ℕ} 12) e ∙ front_written s a b in
    slice_ok (take 12 text) (nine s a) (ap (length {A = ℕ}) front) refl
    (ap (decode_of url_safe_no_pad) front ∙ decode_of-encode_of url_safe_no_pad (nine s a) refl (nine_bytes s a))

pub serial_first : (s a : ℕ) (rest : List ℕ) → s < 2 ^ 64 → from_be_bytes w64 (nine s a ++ rest) ≡ s
serial_first s a rest h = from_be_bytes-to_be_bytes_8 s h

pub serial_read : (s a : ℕ) (out bytes rest : List ℕ) → s < 2 ^ 64 → out ≡ bytes ++ rest → bytes ≡ nine s a → from_be_bytes w64 out ≡ s
serial_read s a out bytes rest h written is =
    ap (from_be_bytes w64) (written ∙ ap (λ (x : List ℕ). x ++ rest) is) ∙ serial_first s a rest h

-- what a text's serial tells, where the text begins with one
abbrev pub Tells : Text → Option ℕ → Type 0
Tells value told = (s a b : ℕ) → s < 2 ^ 64 → value ≡ value_text s a b → told ≡ Some s

abbrev pub no_number : Option ℕ
no_number = None
