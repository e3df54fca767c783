-- Notes on names: what was noted stays, and so does what is noted of a name.
use Rattle.std.proofs.Common.{◌≡◌, ◌≢◌, ℕ, ◌+◌, ◌<◌, ◌≤◌, ◌==◌, false, ⊎_elim, List, [], ◌∷◌, length, drop, set, get_or, Option, Some, None, refl, sym, ap, subst, ◌∙◌, arith, get_or-set_other, get_or-set_same}
use Rattle.std.specs.Prelude.{IsSome, option_and_then}
use Rattle.std.proofs.lemmas.Bool.{cases_eq}
use Rattle.std.proofs.lemmas.Bool.Decides.{nat_tests}
use Rattle.std.proofs.lemmas.List.{drop_all, drop_more}
use Rattle.structured_fields.specs.NameNotes.{positive, noted_at, cell_of, ends, digits, steps, walk, noted, Extends}
use Rattle.structured_fields.proofs.Fronts.{bind_some}

-- ---- what stays

pub extends_itself : (m : List ℕ) → Extends m m
extends_itself m i n e = e

pub extends_on : (m n o : List ℕ) → Extends m n → Extends n o → Extends m o
extends_on m n o first second i k e = second i k (first i k e)

-- where each cell has what it had
pub extends_same : (m n : List ℕ) → ((i : ℕ) → get_or n i 0 ≡ get_or m i 0) → Extends m n
extends_same m n same i k e = ap positive (same i) ∙ e

pub positive_is : (n : ℕ) → 0 < n → positive n ≡ Some n
positive_is n h = let test : (n == 0) ≡ false = grind (arith, nat_tests) in rw test refl

-- a number in an empty cell
module _ (m n : List ℕ) (at k : ℕ) (same : (i : ℕ) → get_or n i 0 ≡ get_or m i 0) (within : at < length n) where
  pub put_there : 0 < k → noted_at (set n at k) at ≡ Some k
  put_there h = ap positive (get_or-set_same n at k 0 within) ∙ positive_is k h

  pub put_stays : noted_at m at ≡ None → Extends m (set n at k)
  put_stays none i p e = ⊎_elim (λ (is : i ≡ at). here is) (λ (other : i ≢ at). ap positive (get_or-set_other n at i k 0 other ∙ same i) ∙ e) (cases_eq i at)
    where
      here : i ≡ at → noted_at (set n at k) i ≡ Some p
      here is = let twice : noted_at m at ≡ Some p = ap (noted_at m) (sym is) ∙ e in absurd cc

pub steps_stay : (m n : List ℕ) → Extends m n → (ds : List ℕ) (node p : ℕ) → steps m node ds ≡ Some p → steps n node ds ≡ Some p
unfolding steps
steps_stay m n stays [] node p e = e
steps_stay m n stays (d ∷ ds) node p e =
    let a = bind_some (noted_at m (cell_of node d)) (λ k. steps m k ds) p e in
    ap (option_and_then (λ k. steps n k ds)) (stays (cell_of node d) a.0 a.1) ∙ steps_stay m n stays ds a.0 p a.2

walk_stays : (m n : List ℕ) → Extends m n → (name : List ℕ) (node p : ℕ) → walk m node name ≡ Some p → walk n node name ≡ Some p
unfolding walk
walk_stays m n stays [] node p e = stays (cell_of node ends) p e
walk_stays m n stays (b ∷ name) node p e =
    let a = bind_some (steps m node (digits b)) (λ k. walk m k name) p e in
    ap (option_and_then (λ k. walk n k name)) (steps_stay m n stays (digits b) node a.0 a.1) ∙ walk_stays m n stays name a.0 p a.2

-- what isn't noted now wasn't before
pub absent_before : (m n : List ℕ) → Extends m n → (name : List ℕ) → noted n name ≡ None → noted m name ≡ None
absent_before m n stays name none = by (noted m name) refl
  where
    by : (o : Option ℕ) → noted m name ≡ o → o ≡ None
    by None e = refl
    by (Some p) e = let there = walk_stays m n stays name 0 p e in absurd cc

-- ---- step by step

pub first_step : (cells : List ℕ) (node d next n : ℕ) (ds : List ℕ) → noted_at cells (cell_of node d) ≡ Some next → steps cells next ds ≡ Some n
    → steps cells node (d ∷ ds) ≡ Some n
unfolding steps
first_step cells node d next n ds there behind = rw there behind

pub last_step : (cells : List ℕ) (node d n : ℕ) → noted_at cells (cell_of node d) ≡ Some n → steps cells node (d ∷ []) ≡ Some n
unfolding steps
last_step cells node d n there = rw there refl

-- ---- byte by byte

module _ (cells : List ℕ) (name : List ℕ) (i node : ℕ) (whole : Option ℕ) (so_far : walk cells node (drop i name) ≡ whole) where
  pub walk_more : i < length name → (next : ℕ) → steps cells node (digits (get_or name i 0)) ≡ Some next → walk cells next (drop (i + 1) name) ≡ whole
  unfolding walk
  walk_more lt next e = sym (ap (walk cells node) (drop_more name i 0 lt) ∙ ap (option_and_then (λ k. walk cells k (drop (i + 1) name))) e) ∙ so_far

  pub walk_fails : i < length name → steps cells node (digits (get_or name i 0)) ≡ None → None ≡ whole
  unfolding walk
  walk_fails lt e = sym (ap (walk cells node) (drop_more name i 0 lt) ∙ ap (option_and_then (λ k. walk cells k (drop (i + 1) name))) e) ∙ so_far

  pub walk_done : length name ≤ i → noted_at cells (cell_of node ends) ≡ whole
  unfolding walk
  walk_done le = sym (ap (walk cells node) (drop_all i name le)) ∙ so_far

pub is_noted : (cells name : List ℕ) (i node n : ℕ) → length name ≤ i → walk cells node (drop i name) ≡ noted cells name
    → noted_at cells (cell_of node ends) ≡ Some n → IsSome (noted cells name)
is_noted cells name i node n le so_far at = subst (λ (o : Option ℕ). IsSome o) (sym at ∙ walk_done cells name i node (noted cells name) so_far le) refl

-- where nothing was noted last, nothing was noted before
pub none_before : (old cells name : List ℕ) (i node : ℕ) → Extends old cells → walk cells node (drop i name) ≡ noted cells name → length name ≤ i
    → noted_at cells (cell_of node ends) ≡ None → noted old name ≡ None
none_before old cells name i node extends so_far le none = absent_before old cells extends name
    (sym (walk_done cells name i node (noted cells name) so_far le) ∙ none)
