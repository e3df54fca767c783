use Rattle.std.proofs.Common.{ℕ, ◌==◌, nat_lt, cond, arith}
use Rattle.std.proofs.lemmas.Simd.{zip2_splat, zip2_splat_left, zip2_of_maps}
use lib.Bits.{bit_or}
use Rattle.plain_text.proofs.PlainText.{stops_masked}
use Rattle.plain_text.proofs.stops.Goals as goal

abbrev equal : ℕ → ℕ → ℕ
equal a b = cond (a == b) 255 0

abbrev below : ℕ → ℕ → ℕ
below a b = cond (nat_lt a b) 255 0

pub returns : goal.returns
returns c =
    let v = c.args.bytes in
    let long = c.fits-bytes.0 in
    let marks = zip2_of_maps bit_or (λ x. equal x 34) (λ x. equal x 92) v (zip2_splat equal v 16 34 long) (zip2_splat equal v 16 92 long) in
    let low = zip2_of_maps bit_or (λ x. bit_or (equal x 34) (equal x 92)) (λ x. below x 32) v marks (zip2_splat below v 16 32 long) in
    let high = zip2_splat_left below 126 16 v long in
    stops_masked v _ (omega arith) (zip2_of_maps bit_or (λ x. bit_or (bit_or (equal x 34) (equal x 92)) (below x 32)) (below 126) v low high)
