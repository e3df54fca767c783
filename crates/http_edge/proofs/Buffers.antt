-- The bytes between two places of a buffer.
use Rattle.std.proofs.Common.{◌≡◌, ℕ, ◌+◌, ◌-◌, ◌<◌, ◌≤◌, List, ◌++◌, length, take, drop, sym, ap, ◌∙◌, arith, inl, inr}
use Rattle.std.specs.Prelude.{slice_range}
use Rattle.std.proofs.lemmas.List.{take-take, take_all, drop-drop, length-take, length-drop}
use Rattle.std.proofs.lemmas.Slice.{between_is}
use Rattle.std.proofs.Math.Seq.{take-add}
use Rattle.http_edge.proofs.Fronts.{nat_split}

pub length_between : (xs : List ℕ) (i j : ℕ) → i ≤ j → j ≤ length xs → length (slice_range xs i j) ≡ j - i
length_between xs i j order within = omega (arith, length-take (j - i) (drop i xs), length-drop i xs)

pub few_between : (xs : List ℕ) (i j most : ℕ) → length xs ≤ most → length (slice_range xs i j) ≤ most
few_between xs i j most few = omega (arith, few, length-take (j - i) (drop i xs), length-drop i xs)

-- what stands before a place depends on the bytes before it alone
pub between_same : (xs ys : List ℕ) (i j n : ℕ) → j ≤ n → take n xs ≡ take n ys → slice_range xs i j ≡ slice_range ys i j
between_same xs ys i j n within e =
    let front : take j xs ≡ take j ys = sym (take-take j n xs within) ∙ ap (take j) e ∙ take-take j n ys within in
    between_is xs i j ∙ ap (drop i) front ∙ sym (between_is ys i j)

-- from a place on, so many bytes and then more
pub between_more : (xs : List ℕ) (i j count : ℕ) → i ≤ j → slice_range xs i (j + count) ≡ slice_range xs i j ++ take count (drop j xs)
between_more xs i j count order =
    let split : j + count - i ≡ (j - i) + count = omega arith in
    let place : i + (j - i) ≡ j = omega arith in
    ap (λ (n : ℕ). take n (drop i xs)) split ∙ take-add (j - i) count (drop i xs)
    ∙ ap (λ (t : List ℕ). take (j - i) (drop i xs) ++ take count t) (drop-drop (j - i) i xs)
    ∙ ap (λ (n : ℕ). take (j - i) (drop i xs) ++ take count (drop n xs)) place

pub between_skip : (xs : List ℕ) (i j count : ℕ) → i + count ≤ j → slice_range xs (i + count) j ≡ drop count (slice_range xs i j)
between_skip xs i j count order =
    between_is xs (i + count) j ∙ sym (drop-drop count i (take j xs)) ∙ ap (drop count) (sym (between_is xs i j))

-- the bytes were moved to s, and the buffer was made longer behind them
pub moved : (b c d : List ℕ) (start end s : ℕ) → s ≤ start → start ≤ end → end ≤ length b → length c ≡ length b
    → slice_range c s (s + (end - start)) ≡ slice_range b start end → take (length c) d ≡ c
    → slice_range d s (end - (start - s)) ≡ slice_range b start end
moved b c d start end s before order within len same longer =
    let place : end - (start - s) ≡ s + (end - start) = omega arith in
    between_same d c s (end - (start - s)) (length c) (omega arith) (longer ∙ sym (take_all (length c) c (omega arith)))
    ∙ ap (slice_range c s) place ∙ same

-- bytes were read behind them
pub read_behind : (c d : List ℕ) (s end count : ℕ) → s ≤ end → take end d ≡ take end c
    → slice_range d s (end + count) ≡ slice_range c s end ++ take count (drop end d)
read_behind c d s end count order front =
    between_more d s end count order ∙ ap (λ (t : List ℕ). t ++ take count (drop end d)) (between_same d c s end end (omega arith) front)

-- there is room within the limit, whether the bytes were moved to the front or not
room_left : (len start end s room : ℕ) → s ≤ start → start ≤ end → end ≤ len → len ≤ 81920 → (end - start) + room ≤ 81920
    → (len < end + room → s ≡ 0) → end - (start - s) + room ≤ 81920
room_left len start end s room before order within bound fits moves = elim (nat_split (end + room) len) [
  | inl le ↦ omega arith
  | inr lt ↦ let front : s ≡ 0 = moves lt in omega arith
]

-- the bytes were moved to s, the buffer was made longer, and it was read into: they stand within it, and it is within the limit
pub stays_within : (b c d e held : List ℕ) (start end s room : ℕ) → (start ≤ end) × (end ≤ length b) × (length b ≤ 81920)
    → slice_range b start end ≡ held → length held + room ≤ 81920 → s ≤ start → length c ≡ length b → (length b < end + room → s ≡ 0)
    → take (length c) d ≡ c → ((n : ℕ) → end - (start - s) + room ≤ n → length c ≤ n → length d ≤ n) → length e ≡ length d
    → (s ≤ end - (start - s)) × (end - (start - s) ≤ length e) × (length e ≤ 81920)
stays_within b c d e held start end s room inside view fits before moved_len moves longer bound len =
    let view_len = length_between b start end inside.0 inside.1 in
    let room_fits = room_left (length b) start end s room before inside.0 inside.1 inside.2 (omega (arith, view_len, ap length view, fits)) moves in
    let few = bound 81920 room_fits (omega (arith, moved_len, inside.2)) in (
      omega (arith, before, inside.0),
      omega (arith, before, inside.0, inside.1, moved_len, ap length longer, length-take (length c) d, len),
      omega (arith, few, len),
    )
