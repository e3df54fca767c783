-- A key as a block.
use Rattle.std.proofs.Common.{◌≡◌, ◌≤◌, ◌∙◌, ap, refl, arith, nat_lt, length, false, replicate, drop, ◌++◌, List, ℕ}
use Rattle.std.proofs.lemmas.List.{drop-replicate}
use Rattle.std.proofs.lemmas.Bool.Decides.{nat_tests}
use Rattle.hmac_key.specs.Hmac.{block_len, block_key}

-- a key that fits has the zeros that it doesn't cover behind it
pub fits : (key : List ℕ) → length key ≤ block_len → key ++ drop (length key) (replicate block_len 0) ≡ block_key key
fits key le =
    let short : nat_lt block_len (length key) ≡ false = grind (arith, nat_tests) in
    ap (λ (r : List ℕ). key ++ r) (drop-replicate (length key) block_len 0) ∙ rw short refl
