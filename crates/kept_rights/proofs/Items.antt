-- Items that are read one after another.
use Rattle.std.proofs.Common.{◌≡◌, ℕ, suc, ◌+◌, ◌-◌, ◌<◌, ◌≤◌, List, [], ◌∷◌, ◌++◌, refl, sym, ap, ◌∙◌, append_assoc, arith}
use Rattle.std.proofs.lemmas.List.{append-nil}
use Rattle.kept_rights.specs.Reading.{items_at, read_as}

-- with this in front
abbrev pub behind : {X : Type 0} → List X → List X × List ℕ → List X × List ℕ
behind front read = read_as (λ others. front ++ others) read

pub started : {X : Type 0} (all : List X × List ℕ) → behind [] all ≡ all
started all = refl

regroup : {X : Type 0} (front : List X) (x : X) (read : List X × List ℕ) → behind front (read_as (λ others. x ∷ others) read) ≡ behind (front ++ x ∷ []) read
regroup {X = X} front x read = ap (λ (xs : List X). (xs, read.1)) (sym (append_assoc front (x ∷ []) read.0))

pub one_more : {X : Type 0} (read : List ℕ → X × List ℕ) (n i : ℕ) (front : List X) (x : X) (left rest : List ℕ) (all : List X × List ℕ) → i < n
    → (x, rest) ≡ read left
    → behind front (items_at read (n - i) left) ≡ all → behind (front ++ x ∷ []) (items_at read (n - (i + 1)) rest) ≡ all
unfolding items_at
one_more read n i front x left rest all lt e so_far =
    let k : n - i ≡ suc (n - (i + 1)) = omega arith in
    let one : behind front (items_at read (n - i) left)
    ≡ behind (front ++ x ∷ []) (items_at read (n - (i + 1)) rest) = rw (k, ← e) (regroup front x (items_at read (n - (i + 1)) rest)) in
    sym one ∙ so_far

pub all_read : {X : Type 0} (read : List ℕ → X × List ℕ) (n i : ℕ) (front : List X) (left : List ℕ) (all : List X × List ℕ) → n ≤ i
    → behind front (items_at read (n - i) left) ≡ all → (front, left) ≡ all
unfolding items_at
all_read {X = X} read n i front left all le so_far =
    let k : n - i ≡ 0 = omega arith in
    let one : behind front (items_at read (n - i) left) ≡ (front, left) = rw k (ap (λ (xs : List X). (xs, left)) (append-nil front)) in
    sym one ∙ so_far
