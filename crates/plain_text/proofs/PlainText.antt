-- Plain text, byte by byte and sixteen bytes at a time.
use Rattle.std.proofs.Common.{◌≡◌, ◌≢◌, ℕ, zero, suc, ◌+◌, ◌-◌, ◌%◌, ◌^◌, ◌==◌, nat_lt, cond, map, ◌<◌, ◌≤◌, Bool, true, false, ◌||◌, List, [], ◌∷◌, ◌++◌, length, take, get_or, refl, sym, ap, ◌∙◌, subst, arith}
use Rattle.std.proofs.Math.Seq.{take-suc, take-length}
use Rattle.std.proofs.lemmas.Bool.{or_parts, eqb-false, ltb-false}
use Rattle.std.proofs.lemmas.List.{length-map}
use Rattle.std.proofs.lemmas.Simd.{map-map, mask_l-mod}
use lib.Bits.{bit_or}
use lib.Lanes.{mask_l, top}
use Rattle.std.proofs.lemmas.Grind.{flat_map-append}
use Rattle.std.proofs.lemmas.Str.Ascii.{IsAscii-more}
use Rattle.json.specs.Print.{escape, escape_byte}
use Rattle.json.proofs.Printed.Strings.{escape_byte_plain}
use Rattle.plain_text.specs.PlainText.{IsPlainByte, is_stop, IsPlain}

pub plain_byte : (x : ℕ) → 32 ≤ x → x ≤ 126 → x ≢ 34 → x ≢ 92 → IsPlainByte x
plain_byte x low high no_quote no_backslash = (escape_byte_plain x no_quote no_backslash low, omega arith)

pub one_more : (bs : List ℕ) (i : ℕ) → i < length bs → IsPlain (take i bs) → IsPlainByte (get_or bs i 0) → IsPlain (take (i + 1) bs)
one_more bs i within before byte =
    let next : i + 1 ≡ suc i = omega arith in
    let grown : take (i + 1) bs ≡ take i bs ++ get_or bs i 0 ∷ [] = ap (λ n. take n bs) next ∙ take-suc bs i 0 within in (
      ap escape grown ∙ flat_map-append escape_byte (take i bs) (get_or bs i 0 ∷ []) ∙ (λ j. before.0 j ++ (byte.0 j ++ [])) ∙ sym grown,
      IsAscii-more bs i within before.1 byte.1,
    )

stop_passed : (x : ℕ) → is_stop x ≡ false → IsPlainByte x
stop_passed x passed =
    let high = or_parts ((x == 34) || (x == 92) || nat_lt x 32) (nat_lt 126 x) passed in
    let low = or_parts ((x == 34) || (x == 92)) (nat_lt x 32) high.0 in
    let marks = or_parts (x == 34) (x == 92) low.0 in
    plain_byte x (ltb-false x 32 low.1) (ltb-false 126 x high.1) (eqb-false x 34 marks.0) (eqb-false x 92 marks.1)

pub run_more : (bs : List ℕ) (i r : ℕ) → i + r ≤ length bs → IsPlain (take i bs) → ((k : ℕ) → i ≤ k → k < i + r → is_stop (get_or bs k 0) ≡ false)
    → IsPlain (take (i + r) bs)
run_more bs i zero within before passed = let same : i ≡ i + 0 = omega arith in subst (λ n. IsPlain (take n bs)) same before
run_more bs i (suc r) within before passed =
    let next : i + r + 1 ≡ i + suc r = omega arith in
    let run = run_more bs i r (omega arith) before (λ k from below. passed k from (omega arith)) in
    subst (λ n. IsPlain (take n bs)) next (one_more bs (i + r) (omega arith) run (stop_passed _ (passed (i + r) (omega arith) (omega arith))))

-- where no more stops
pub whole_run : (bs : List ℕ) (i : ℕ) → i ≤ length bs → IsPlain (take i bs) → ((k : ℕ) → i ≤ k → k < length bs → is_stop (get_or bs k 0) ≡ false) → IsPlain bs
whole_run bs i within before passed =
    let all : i + (length bs - i) ≡ length bs = omega arith in
    let run = run_more bs i (length bs - i) (omega arith) before (λ k from below. passed k from (omega arith)) in
    subst IsPlain (ap (λ n. take n bs) all ∙ take-length bs) run

abbrev lane : Bool → ℕ
lane b = cond b 255 0

either_lane : (a b : Bool) → bit_or (lane a) (lane b) ≡ lane (a || b)
either_lane true true = refl
either_lane true false = refl
either_lane false true = refl
either_lane false false = refl

top_lane : (b : Bool) → top 7 (lane b) ≡ b
top_lane true = refl
top_lane false = refl

abbrev stop_lane : ℕ → ℕ
stop_lane x = bit_or (bit_or (bit_or (lane (x == 34)) (lane (x == 92))) (lane (nat_lt x 32))) (lane (nat_lt 126 x))

top_stop_lane : (x : ℕ) → top 7 (stop_lane x) ≡ is_stop x
top_stop_lane x =
    let marks = either_lane (x == 34) (x == 92) in
    let low = ap (λ n. bit_or n (lane (nat_lt x 32))) marks ∙ either_lane ((x == 34) || (x == 92)) (nat_lt x 32) in
    let high = ap (λ n. bit_or n (lane (nat_lt 126 x))) low ∙ either_lane ((x == 34) || (x == 92) || nat_lt x 32) (nat_lt 126 x) in
    ap (top 7) high ∙ top_lane (is_stop x)

pub stops_masked : (v z : List ℕ) → length v ≤ 64 → z ≡ map stop_lane v → mask_l (map (top 7) z) % 2 ^ 64 ≡ mask_l (map is_stop v)
stops_masked v z few is =
    let tops : map (top 7) z ≡ map is_stop v =
    ap (map (top 7)) is ∙ map-map (top 7) stop_lane v ∙ (λ i. map (λ x. top_stop_lane x i) v) in
    ap (λ l. mask_l l % 2 ^ 64) tops ∙ mask_l-mod (map is_stop v) 64 (omega (arith, length-map v is_stop))
