-- From what the workers saw to the sum.
use Rattle.std.proofs.Common.{◌≡◌, ◌∙◌, ◌⊎◌, ℕ, suc, ◌+◌, ◌*◌, ◌-◌, ◌<◌, ◌≤◌, ◌^◌, Bool, true, false, if◌then◌else◌}
use Rattle.std.proofs.Common.{List, [], ◌∷◌, ◌++◌, map, length, add-zero, slice_index_or, refl, ap, sym, subst, arith, append_assoc, inl, inr}
use Rattle.std.proofs.Math.Nat.{min-eq_left, mul-le-mul_right}
use Rattle.std.proofs.lemmas.Bool.Decides.{nat_tests}
use Rattle.std.specs.Prelude.{sum, nat_lt}
use Rattle.std.proofs.lemmas.List.{length-map}
use Rattle.std.proofs.lemmas.List.Sums.{sum_by-cons}
use mathlib.Core.Option.{some}
use lib.ListN.{get_elem?}
use Rattle.histories.specs.History.{Legal, notes_of}
use Rattle.histories.specs.Steps.{NoneOf}
use Rattle.histories.specs.Whole.{own_of, Joined}
use Rattle.histories.proofs.OwnEntries.{own-here, own-none, own-others}
use Rattle.test_adding.specs.declared.adding.Call.{Call}
use Rattle.test_adding.specs.declared.adding.Call.TheVariants.{Add, Total, Lapse}
use Rattle.test_adding.specs.Adding.{capped, added, adding}
use Rattle.test_adding.specs.Amounts.{AddingEntry, EachAdds, adds_in, one_if_adds, IsWork}
use Rattle.shared_server.specs.Passes.{PassState}
use Rattle.test_adding.proofs.Passing.{at_index, index_at, from_map}
use Rattle.test_adding.specs.Ones.{EachServed, AreSums}

-- all entries are ones where those of each number are
rest_ones : (b : Bool) (e : AddingEntry) (own : List AddingEntry) → EachAdds 1 (if b then e ∷ own else own) → EachAdds 1 own
rest_ones true e own all = all.1
rest_ones false e own all = all

ones_all : (h : List AddingEntry) → ((k : ℕ) → EachAdds 1 (own_of k h)) → EachAdds 1 h
ones_all [] each = tt
ones_all (e ∷ h) each =
    let mine : EachAdds 1 (e ∷ own_of e.number h) = subst (EachAdds 1) (own-here e.number e h refl) (each e.number) in
    (mine.0, ones_all h (λ k. rest_ones _ e (own_of k h) (each k)))

-- each entry that adds has the one note 1, a lapse has none
notes_add : (h before all : List AddingEntry) → all ≡ before ++ h → Legal adding 0 all → EachAdds 1 h → added (notes_of h) ≡ adds_in h
notes_add [] before all is legal ones = refl
notes_add (e ∷ h) before all is legal ones =
    let notes = (legal before e h is).notes in
    let rest = notes_add h (before ++ e ∷ []) all (is ∙ sym (append_assoc before (e ∷ []) h)) legal ones.1 in
    elim ones.0 [
      | inl one ↦
          let own : e.notes ≡ 1 ∷ [] = notes ∙ ap (λ call. (adding.answer 0 before e.moment e.draw call).notes) one in
          let first = ap (λ ns. added (ns ++ notes_of h)) own in
          let adds = ap one_if_adds one in
          omega (arith, rest, first, adds)
      | inr lapse ↦
          let own : e.notes ≡ [] = notes ∙ ap (λ call. (adding.answer 0 before e.moment e.draw call).notes) lapse in
          let first = ap (λ ns. added (ns ++ notes_of h)) own in
          let adds = ap one_if_adds lapse in
          omega (arith, rest, first, adds)
    ]

one_at_most : (call : Call) → one_if_adds call ≤ 1
one_at_most (Add amount) = omega arith
one_at_most Total = omega arith
one_at_most Lapse = omega arith

adds_within : (h : List AddingEntry) → adds_in h ≤ length h
adds_within [] = omega arith
adds_within (e ∷ h) = let rest = adds_within h in let one = one_at_most e.call in omega (arith, rest, one)

-- how many entries add that have the number i or a greater one
abbrev adds_from : ℕ → List AddingEntry → ℕ
adds_from i [] = 0
adds_from i (e ∷ h) = (if nat_lt e.number i then 0 else one_if_adds e.call) + adds_from i h

adds_from_first : (h : List AddingEntry) → adds_from 0 h ≡ adds_in h
adds_from_first [] = refl
adds_from_first (e ∷ h) = let rest = adds_from_first h in grind (arith, nat_tests, rest)

-- those of the number i, and of the greater ones
adds_from_next : (i : ℕ) (h : List AddingEntry) → adds_from i h ≡ adds_in (own_of i h) + adds_from (suc i) h
adds_from_next i [] = refl
adds_from_next i (e ∷ h) = let rest = adds_from_next i h in grind (arith, nat_tests, rest)

adds_from_none : (i : ℕ) (h : List AddingEntry) → ((k : ℕ) → i ≤ k → NoneOf k h) → adds_from i h ≡ 0
adds_from_none i [] others = refl
adds_from_none i (e ∷ h) others =
    let not_above : i ≤ e.number → ⊥ = λ at. (others e.number at).0 refl in
    let under : e.number < i = omega (arith, not_above) in
    let rest = adds_from_none i h (λ k at. (others k at).1) in
    grind (arith, nat_tests, rest, under)

-- each worker's adds make all adds
adds_of_all : (i : ℕ) (answered : List ℕ) (h : List AddingEntry)
    → ((k n : ℕ) → get_elem? answered k ≡ some n → adds_in (own_of (i + k) h) ≡ n)
    → ((k : ℕ) → i + length answered ≤ k → NoneOf k h) → adds_from i h ≡ sum answered
adds_of_all i [] h each others = adds_from_none i h (λ k at. others k (omega (arith, at)))
adds_of_all i (n ∷ answered) h each others =
    let first : adds_in (own_of i h) ≡ n = subst (λ j. adds_in (own_of j h) ≡ n) (add-zero i) (each 0 n refl) in
    let rest = adds_of_all (suc i) answered h (λ k m at. subst (λ j. adds_in (own_of j h) ≡ m) (omega arith) (each (suc k) m at))
    (λ k at. others k (omega (arith, at))) in
    let next = adds_from_next i h in
    let all = sum_by-cons (λ x. x) n answered in
    omega (arith, first, rest, next, all)

sum_most : (times : ℕ) (answered : List ℕ) → ((k n : ℕ) → get_elem? answered k ≡ some n → n ≤ times) → sum answered ≤ length answered * times
sum_most times [] each = omega arith
sum_most times (n ∷ answered) each =
    let first = each 0 n refl in
    let rest = sum_most times answered (λ k m at. each (suc k) m at) in
    let product : suc (length answered) * times ≡ length answered * times + times = grind arith in
    let all = sum_by-cons (λ x. x) n answered in
    omega (arith, first, rest, product, all)

work_most : (times answered : ℕ) (own : List AddingEntry) → IsWork 1 times answered own → answered ≤ times
work_most times answered own work =
    let within = adds_within own in
    let adds = work.adds in
    let count = work.count in
    omega (arith, within, adds, count)

module _ (workers times : ℕ) (answered : List ℕ) (h : List AddingEntry) (count : length answered ≡ workers)
    (each : (k n : ℕ) → get_elem? answered k ≡ some n → IsWork 1 times n (own_of k h)) (others : (k : ℕ) → workers ≤ k → NoneOf k h) where
  adds_are : adds_in h ≡ sum answered
  adds_are = sym (adds_from_first h) ∙ adds_of_all 0 answered h
      (λ k n at. subst (λ j. adds_in (own_of j h) ≡ n) (omega arith) (each k n at).adds)
      (λ k at. others k (omega (arith, at, count)))

  adds_few : adds_in h ≤ workers * times
  adds_few =
      let are = adds_are in
      let most = sum_most times answered (λ k n at. work_most times n (own_of k h) (each k n at)) in
      let product : length answered * times ≡ workers * times = ap (λ n. n * times) count in
      omega (arith, are, most, product)

-- So the total is what was answered,
pub total_answered : (workers times : ℕ) (answered : List ℕ) (total : ℕ) → AreSums workers times answered total → total ≡ sum answered
total_answered workers times answered total s = s.total_is ∙ adds_are workers times answered s.history s.count s.each s.others

-- and no more than all calls.
pub total_most : (workers times : ℕ) (answered : List ℕ) (total : ℕ) → AreSums workers times answered total → total ≤ workers * times
total_most workers times answered total s =
    let few = adds_few workers times answered s.history s.count s.each s.others in
    let is = s.total_is in
    omega (arith, few, is)

module _ {R : Type 0} (workers times : ℕ) (passes : List (PassState R AddingEntry)) (answered : List ℕ) (h : List AddingEntry)
    (long : length passes ≡ workers) (count : length answered ≡ workers) (served : EachServed times passes answered)
    (joins : Joined (map (λ (p : PassState R AddingEntry). p.seen) passes) h) where
  own_work : (k n : ℕ) → get_elem? answered k ≡ some n → IsWork 1 times n (own_of k h)
  own_work k n e =
      let seen = map (λ (p : PassState R AddingEntry). p.seen) passes in
      let lt = (at_index answered k n e).0 in
      let size = length-map passes (λ (p : PassState R AddingEntry). p.seen) in
      let at = index_at seen k [] (omega (arith, lt, size, long, count)) in
      let with = from_map (λ (p : PassState R AddingEntry). p.seen) passes k (slice_index_or seen k []) at in
      let there = joins.each k (slice_index_or seen k []) at in
      let same : own_of k h ≡ own_of k with.0.seen
      = ap (own_of k) there.1 ∙ own-others k (slice_index_or seen k []) there.0 there.2 ∙ ap (own_of k) (sym with.2) in
      subst (λ (own : List AddingEntry). IsWork 1 times n own) (sym same) (served.each k n with.0 with.1 e)

  nobody_else : (k : ℕ) → workers ≤ k → NoneOf k h
  nobody_else k at = joins.others k (let l = length-map passes (λ (p : PassState R AddingEntry). p.seen) in omega (arith, at, l, long))

  all_ones : EachAdds 1 h
  all_ones = ones_all h (λ k. elim (let either : (k < workers) ⊎ (workers ≤ k) = grind arith in either) [
    | inl lt ↦ (own_work k (slice_index_or answered k 0) (index_at answered k 0 (omega (arith, lt, count)))).each
    | inr le ↦ subst (EachAdds 1) (sym (own-none k h (nobody_else k le))) tt
  ])

  -- The total of the core that stands for the history is how many entries add.
  pub are_sums : (total rules : ℕ) → workers ≤ 64 → times < 2 ^ 52 → rules ≡ 0 → Legal adding rules h → total ≡ capped (rules + added (notes_of h))
      → AreSums workers times answered total
  are_sums total rules few room start legal is =
      let legal0 : Legal adding 0 h = subst (λ r. Legal adding r h) start legal in
      let adds : added (notes_of h) ≡ adds_in h = notes_add h [] h refl legal0 all_ones in
      let most = adds_few workers times answered h count own_work nobody_else in
      let product : workers * times ≤ 64 * times = mul-le-mul_right times few in
      let small : rules + added (notes_of h) ≤ 2 ^ 64 - 1 = omega (arith, start, adds, most, product, room) in
      let uncapped : capped (rules + added (notes_of h)) ≡ rules + added (notes_of h) = min-eq_left small in
      record {
        history = h;
        legal = legal0;
        count = count;
        each = own_work;
        others = nobody_else;
        total_is = omega (arith, is, uncapped, start, adds);
      }
