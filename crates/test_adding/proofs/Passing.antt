-- Passes that were handed to threads and came back, place by place.
use Rattle.std.proofs.Common.{◌≡◌, ◌∙◌, ℕ, zero, suc, ◌+◌, ◌<◌, ◌^◌, List, [], ◌∷◌, map, length, refl, ap, sym, subst, arith, slice_index_or}
use Rattle.std.proofs.lemmas.List.{length-map}
use Rattle.std.specs.Prelude.{IfOk}
use Rattle.std.specs.declared.result.Result.{Result}
use Rattle.std.specs.declared.result.Result.TheVariants.{Ok, Err}
use mathlib.Core.Option.{some, some-injective, some-ne-none}
use lib.ListN.{get_elem?}
use Rattle.histories.specs.History.{places}
use Rattle.histories.specs.Whole.{own_of}
use Rattle.shared_server.specs.Passes.{Sharing, PassState, IsPassOf, AreAll, AreNew}
use Rattle.test_adding.specs.declared.calls.Made.{Made}
use Rattle.test_adding.specs.Amounts.{AddingEntry, IsWork, GrewBy}
use Rattle.test_adding.proofs.Growing.{grew-from-new}
use Rattle.test_adding.specs.Ones.{EachServed}

module _ {X : Type 0} where
  pub at_index : (l : List X) (k : ℕ) (x : X) → get_elem? l k ≡ some x → (k < length l) × (slice_index_or l k x ≡ x)
  at_index [] k x e = absurd (some-ne-none x (sym e))
  at_index (y ∷ l) zero x e = (omega arith, some-injective y x e)
  at_index (y ∷ l) (suc k) x e = let rest = at_index l k x e in let lt = rest.0 in (omega (arith, lt), rest.1)

  pub index_at : (l : List X) (k : ℕ) (d : X) → k < length l → get_elem? l k ≡ some (slice_index_or l k d)
  index_at [] k d lt = absurd (let lt' : k < 0 = lt in omega (arith, lt'))
  index_at (y ∷ l) zero d lt = refl
  index_at (y ∷ l) (suc k) d lt = index_at l k d (let lt' : suc k < length (y ∷ l) = lt in omega (arith, lt'))

-- what stands at a place of a list that a function made
pub from_map : {X Y : Type 0} (f : X → Y) (l : List X) (k : ℕ) (y : Y) → get_elem? (map f l) k ≡ some y → (x : X) × (get_elem? l k ≡ some x) × (f x ≡ y)
from_map f [] k y e = absurd (some-ne-none y (sym e))
from_map f (x ∷ l) zero y e = (x, refl, some-injective (f x) y e)
from_map f (x ∷ l) (suc k) y e = from_map f l k y e

module _ {R : Type 0} (core : Sharing R) (passes : List (PassState R AddingEntry)) (new : AreNew core passes) (times : ℕ) where
  -- a new pass may make its calls
  pub may_work : (k : ℕ) (p : PassState R AddingEntry) → k < length passes → p ≡ slice_index_or passes k p → times < 2 ^ 52
      → IsPassOf core p × (length (places p.number p.seen) + times < 2 ^ 52)
  may_work k p lt is room =
      let at : get_elem? passes k ≡ some p = index_at passes k p lt ∙ ap (λ x. some x) (sym is) in
      let seen : p.seen ≡ [] = new.unseen k p at in
      ((new.all.each k p at).0, subst (λ h. length (places p.number h) + times < 2 ^ 52) (sym seen) (omega (arith, room)))

  -- what comes back in the place of a pass has this pass, with the work that was done
  abbrev Came : PassState R AddingEntry → PassState R AddingEntry → Made → Type 0
  Came p back made = IsPassOf core back × (back.number ≡ p.number) × GrewBy p.number 1 times made p.seen back.seen

  module _ {T : Type 0} (pass : T → PassState R AddingEntry) (made : T → Made) (back : List T) (long : length back ≡ length passes)
      (each : (k : ℕ) (d : T) → k < length passes → (p : PassState R AddingEntry) × (slice_index_or passes k p ≡ p)
      × Came p (pass (slice_index_or back k d)) (made (slice_index_or back k d))) where
    came_at : (k : ℕ) (x : T) → get_elem? back k ≡ some x → (p : PassState R AddingEntry) × (get_elem? passes k ≡ some p) × Came p (pass x) (made x)
    came_at k x e =
        let at = at_index back k x e in
        let lt : k < length passes = subst (λ n. k < n) long at.0 in
        let came = each k x lt in
        (came.0, index_at passes k came.0 lt ∙ ap (λ y. some y) came.1, subst (λ (y : T). Came came.0 (pass y) (made y)) at.1 came.2)

    -- all passes are back
    pub all_again : AreAll core (map pass back)
    all_again = record {
      count = length-map back pass ∙ long ∙ new.all.count;
      each = λ k y e.
          let from = from_map pass back k y e in
          let came = came_at k from.0 from.1 in
          let number : (pass from.0).number ≡ k = came.2.1 ∙ (new.all.each k came.0 came.1).1 in
          subst (λ (z : PassState R AddingEntry). IsPassOf core z × (z.number ≡ k)) from.2 (came.2.0, number);
    }

    -- each with its work
    pub each_served : EachServed times (map pass back) (map (λ x. (made x).answered) back)
    each_served = record {
      each = λ k n y e counted.
          let from = from_map pass back k y e in
          let with = from_map (λ x. (made x).answered) back k n counted in
          let same : with.0 ≡ from.0 = some-injective with.0 from.0 (sym with.1 ∙ from.1) in
          let came = came_at k from.0 from.1 in
          let is : (made from.0).answered ≡ n = ap (λ x. (made x).answered) (sym same) ∙ with.2 in
          let grew : GrewBy came.0.number 1 times (made from.0) came.0.seen y.seen
          = subst (λ (z : PassState R AddingEntry). GrewBy came.0.number 1 times (made from.0) came.0.seen z.seen) from.2 came.2.2 in
          let work = grew-from-new came.0.number k 1 times (made from.0) came.0.seen y.seen
          (new.all.each k came.0 came.1).1 (new.unseen k came.0 came.1) grew in
          subst (λ m. IsWork 1 times m (own_of k y.seen)) is work;
    }

pub ok_both : {T E : Type 0} (r : Result T E) (P Q S : T → Type 0) → IfOk r P → IfOk r Q → ((x : T) → P x → Q x → S x) → IfOk r S
ok_both (Ok x) P Q S p q f = f x p q
ok_both (Err e) P Q S p q f = tt
