-- From the shares of all workers to one history.
use Rattle.std.proofs.Common.{◌≡◌, ◌∙◌, ◌⊎◌, inl, inr, ⊎_elim, ℕ, zero, suc, ◌+◌, ◌<◌, ◌≤◌, List, [], ◌∷◌, ◌++◌, map, length, length-append, take, drop, slice_index_or, refl, ap, sym, subst, arith, add-zero, append_assoc}
use Rattle.std.specs.Prelude.{nat_lt, if◌then◌else◌}
use Rattle.std.proofs.lemmas.Bool.Decides.{nat_tests}
use Rattle.std.proofs.lemmas.List.{append-nil, length-map, map-append, take_all}
use Rattle.std.proofs.Math.ListN.{drop_of_length-le}
use mathlib.Core.Option.{some, some-injective, some-ne-none}
use lib.ListN.{get_elem?}
use Rattle.histories.specs.History.{Legal}
use Rattle.histories.specs.Steps.{NoneOf, EachOf}
use Rattle.histories.specs.Whole.{AllMeet, Below, Joined, own_of}
use Rattle.histories.proofs.OwnEntries.{own-all, own-others}
use Rattle.shared_server.specs.Passes.{Sharing, PassState, IsPassOf, AreAll}
use Rattle.gnap_model.specs.declared.objects.Setup.{Setup}
use Rattle.gnap_model.specs.declared.calls.Reply.{Reply}
use Rattle.grant_machine.specs.Gnap.{gnap, GnapEntry}
use Rattle.desk_load.specs.declared.tally.Tally.{Tally}
use Rattle.desk_load.specs.LoadCalls.{load_setup}
use Rattle.desk_load.specs.Loads.{IsLoad, IsDrawnShare, DoesShare, shares_from}
use Rattle.desk_load.specs.Sharing.{WorkerState, IsSameWorker, IsWorker, AreWorkers, HasCounted, HasDone, HaveDone}
use Rattle.desk_load.specs.Tallies.{count_by, one_if_active, one_if_inactive, one_if_done, tally_of, none_counted, Adds, sum_by_tally, sum_of_tallies}

module _ {X : Type 0} where
  at_index : (l : List X) (k : ℕ) (x : X) → get_elem? l k ≡ some x → (k < length l) × (slice_index_or l k x ≡ x)
  at_index [] k x e = absurd (some-ne-none x (sym e))
  at_index (y ∷ l) zero x e = (omega arith, some-injective y x e)
  at_index (y ∷ l) (suc k) x e = let rest = at_index l k x e in let lt = rest.0 in (omega (arith, lt), rest.1)

module _ {X : Type 0} where
  index_at : (l : List X) (k : ℕ) (d : X) → k < length l → get_elem? l k ≡ some (slice_index_or l k d)
  index_at [] k d lt = absurd (let lt' : k < 0 = lt in omega (arith, lt'))
  index_at (y ∷ l) zero d lt = refl
  index_at (y ∷ l) (suc k) d lt = index_at l k d (let lt' : suc k < length (y ∷ l) = lt in omega (arith, lt'))

module _ {X : Type 0} where
  there_is : (l : List X) (k : ℕ) → k < length l → (x : X) × (get_elem? l k ≡ some x)
  there_is [] k lt = absurd (let lt' : k < 0 = lt in omega (arith, lt'))
  there_is (y ∷ l) zero lt = (y, refl)
  there_is (y ∷ l) (suc k) lt = there_is l k (let lt' : suc k < length (y ∷ l) = lt in omega (arith, lt'))

  at_end : (xs : List X) (a b : X) (k : ℕ) → get_elem? (xs ++ a ∷ []) k ≡ some b → (get_elem? xs k ≡ some b) ⊎ ((k ≡ length xs) × (a ≡ b))
  at_end [] a b zero e = inr (refl, some-injective a b e)
  at_end [] a b (suc k) e = absurd (some-ne-none b (sym e))
  at_end (x ∷ xs) a b zero e = inl e
  at_end (x ∷ xs) a b (suc k) e = ⊎_elim (λ p. inl p) (λ (p : (k ≡ length xs) × (a ≡ b)). inr (ap suc p.0, p.1)) (at_end xs a b k e)

  -- what holds at each place of a list, and at the place behind it
  pub each-next : (P : ℕ → X → Type 0) (xs : List X) (x : X) → ((k : ℕ) (y : X) → get_elem? xs k ≡ some y → P k y) → P (length xs) x
      → (k : ℕ) (y : X) → get_elem? (xs ++ x ∷ []) k ≡ some y → P k y
  each-next P xs x each next k y e = ⊎_elim
      (λ (p : get_elem? xs k ≡ some y). each k y p)
      (λ (p : (k ≡ length xs) × (x ≡ y)). subst (P k) p.1 (subst (λ j. P j x) (sym p.0) next))
      (at_end xs x y k e)

  pub size-next : (done : List X) (x : X) → length (done ++ x ∷ []) ≡ length done + 1
  size-next done x = length-append done (x ∷ [])

  at_middle : (xs : List X) (x : X) (ys : List X) → get_elem? (xs ++ x ∷ ys) (length xs) ≡ some x
  at_middle [] x ys = refl
  at_middle (z ∷ xs) x ys = at_middle xs x ys

  -- the place of the next one of those that are left
  pub next_at : (done rest rest_now whole : List X) (x : X) → done ++ rest ≡ whole → rest ≡ x ∷ rest_now → get_elem? whole (length done) ≡ some x
  next_at done rest rest_now whole x parts next = ap (λ l. get_elem? l (length done)) (sym parts ∙ ap (λ l. done ++ l) next) ∙ at_middle done x rest_now

  pub parts-next : (done rest rest_now whole : List X) (x : X) → done ++ rest ≡ whole → rest ≡ x ∷ rest_now → (done ++ x ∷ []) ++ rest_now ≡ whole
  parts-next done rest rest_now whole x parts next = append_assoc done (x ∷ []) rest_now ∙ ap (λ l. done ++ l) (sym next) ∙ parts

module _ {X Y : Type 0} (f : X → Y) where
  pub to_map : (l : List X) (k : ℕ) (x : X) → get_elem? l k ≡ some x → get_elem? (map f l) k ≡ some (f x)
  to_map [] k x e = absurd (some-ne-none x (sym e))
  to_map (y ∷ l) zero x e = ap (λ z. some (f z)) (some-injective y x e)
  to_map (y ∷ l) (suc k) x e = to_map l k x e

  pub from_map : (l : List X) (k : ℕ) (y : Y) → get_elem? (map f l) k ≡ some y → (x : X) × (get_elem? l k ≡ some x) × (f x ≡ y)
  from_map [] k y e = absurd (some-ne-none y (sym e))
  from_map (x ∷ l) zero y e = (x, refl, some-injective (f x) y e)
  from_map (x ∷ l) (suc k) y e = from_map l k y e

-- ---- workers

-- place by place
abbrev pub EachIsSame : List WorkerState → List WorkerState → Type 0
EachIsSame before after = (i : ℕ) (d : WorkerState) → i < length before → IsSameWorker (slice_index_or before i d) (slice_index_or after i d)

-- whose work leaves what they are
pub same_workers : (core : Sharing Setup) (grants start : ℕ) (before after : List WorkerState) → EachIsSame before after → length after ≡ length before
    → AreWorkers core grants start before → AreWorkers core grants start after
same_workers core grants start before after each long are = record {
  count = long ∙ are.count;
  each = λ k w e.
      let at = at_index after k w e in
      let lt : k < length before = subst (λ n. k < n) long at.0 in
      let same : IsSameWorker (slice_index_or before k w) w = subst (λ (v : WorkerState). IsSameWorker (slice_index_or before k w) v) at.1 (each k w lt) in
      let was = are.each k (slice_index_or before k w) (index_at before k w lt) in
      record {
        home = same.home ∙ was.home;
        number = same.number ∙ was.number;
        grants_are = same.grants ∙ was.grants_are;
        start_is = same.start ∙ was.start_is;
        workers_are = same.workers ∙ was.workers_are;
        worker_is = same.worker ∙ was.worker_is;
      };
}

pub written_back : (n : ℕ) (before after : List WorkerState) → length after ≡ length before → length before ≡ n
    → take n (after ++ drop (length after) before) ≡ after
written_back n before after long size =
    ap (λ l. take n (after ++ l)) (drop_of_length-le before (omega (arith, long))) ∙ ap (take n) (append-nil after)
    ∙ take_all n after (omega (arith, long, size))

-- what a worker has counted is of its number
pub counted-as : (core : Sharing Setup) (grants start k : ℕ) (w : WorkerState) (seen : List GnapEntry) (tally : Tally) → IsWorker core grants start k w
    → HasCounted w.grants w.start w.workers w.worker w.station.number seen tally → HasCounted grants start core.count k k seen tally
counted-as core grants start k w seen tally is c =
    subst (λ a. HasCounted a start core.count k k seen tally) is.grants_are
    (subst (λ a. HasCounted w.grants a core.count k k seen tally) is.start_is
    (subst (λ a. HasCounted w.grants w.start a k k seen tally) is.workers_are
    (subst (λ a. HasCounted w.grants w.start w.workers a k seen tally) is.worker_is
    (subst (λ a. HasCounted w.grants w.start w.workers w.worker a seen tally) is.number c))))

-- ---- tallies added up

sum-append : (field : Tally → ℕ) (ts : List Tally) (t : Tally) → sum_by_tally field (ts ++ t ∷ []) ≡ sum_by_tally field ts + field t
sum-append field [] t = omega arith
sum-append field (u ∷ ts) t = let rest = sum-append field ts t in omega (arith, rest)

same_tally : (t : Tally) (a b d : ℕ) → t.active ≡ a → t.inactive ≡ b → t.done ≡ d → t ≡ record { active = a; inactive = b; done = d }
same_tally t a b d is_a is_b is_d =
    subst (λ x. t ≡ record { active = x; inactive = b; done = d }) is_a
    (subst (λ x. t ≡ record { active = t.active; inactive = x; done = d }) is_b
    (subst (λ x. t ≡ record { active = t.active; inactive = t.inactive; done = x }) is_d refl))

sum-by-next : (field : Tally → ℕ) (ts : List Tally) (t total total' : Tally) → total ≡ sum_of_tallies ts → field (sum_of_tallies ts) ≡ sum_by_tally field ts
    → field total' ≡ field total + field t → field total' ≡ sum_by_tally field (ts ++ t ∷ [])
sum-by-next field ts t total total' is whole adds =
    let a = ap field is in
    let b = sum-append field ts t in
    omega (arith, a, b, whole, adds)

pub sum-next : (ts : List Tally) (t total total' : Tally) → total ≡ sum_of_tallies ts → Adds t total total' → total' ≡ sum_of_tallies (ts ++ t ∷ [])
sum-next ts t total total' is adds = same_tally total' _ _ _
    (sum-by-next (λ u. u.active) ts t total total' is refl adds.active)
    (sum-by-next (λ u. u.inactive) ts t total total' is refl adds.inactive)
    (sum-by-next (λ u. u.done) ts t total total' is refl adds.done)

-- ---- replies counted by the numbers of entries

-- what the entries with this number or a greater one count
abbrev from_number : (Reply → ℕ) → ℕ → List GnapEntry → ℕ
from_number one i [] = 0
from_number one i (e ∷ h) = (if nat_lt e.number i then 0 else one e.reply) + from_number one i h

from_first : (one : Reply → ℕ) (h : List GnapEntry) → from_number one 0 h ≡ count_by one h
from_first one [] = refl
from_first one (e ∷ h) = let rest = from_first one h in grind (arith, nat_tests, rest)

from_next : (one : Reply → ℕ) (i : ℕ) (h : List GnapEntry) → from_number one i h ≡ count_by one (own_of i h) + from_number one (suc i) h
from_next one i [] = refl
from_next one i (e ∷ h) = let rest = from_next one i h in grind (arith, nat_tests, rest)

from_none : (one : Reply → ℕ) (i : ℕ) (h : List GnapEntry) → ((k : ℕ) → i ≤ k → NoneOf k h) → from_number one i h ≡ 0
from_none one i [] others = refl
from_none one i (e ∷ h) others =
    let not_above : i ≤ e.number → ⊥ = λ at. (others e.number at).0 refl in
    let under : e.number < i = omega (arith, not_above) in
    let rest = from_none one i h (λ k at. (others k at).1) in
    grind (arith, nat_tests, rest, under)

from_all : (one : Reply → ℕ) (field : Tally → ℕ) (i : ℕ) (tallies : List Tally) (h : List GnapEntry)
    → ((k : ℕ) (t : Tally) → get_elem? tallies k ≡ some t → field t ≡ count_by one (own_of (i + k) h))
    → ((k : ℕ) → i + length tallies ≤ k → NoneOf k h) → from_number one i h ≡ sum_by_tally field tallies
from_all one field i [] h each others = from_none one i h (λ k at. others k (omega (arith, at)))
from_all one field i (t ∷ tallies) h each others =
    let first : field t ≡ count_by one (own_of i h) = subst (λ j. field t ≡ count_by one (own_of j h)) (add-zero i) (each 0 t refl) in
    let rest = from_all one field (suc i) tallies h
    (λ k u at. subst (λ j. field u ≡ count_by one (own_of j h)) (let same : i + suc k ≡ suc i + k = omega arith in same) (each (suc k) u at))
    (λ k at. others k (omega (arith, at))) in
    let next = from_next one i h in
    omega (arith, first, rest, next)

-- ---- accounts

meet_shares : (grants start workers i n : ℕ) (h : List GnapEntry) → ((k : ℕ) → k < n → IsDrawnShare grants start workers (i + k) (own_of (i + k) h))
    → AllMeet i (shares_from grants start workers i n) h
meet_shares grants start workers i zero h each = tt
meet_shares grants start workers i (suc n) h each = (
  subst (λ j. IsDrawnShare grants start workers j (own_of j h)) (add-zero i) (each 0 (omega arith)),
  meet_shares grants start workers (suc i) n h
      (λ k lt. subst (λ j. IsDrawnShare grants start workers j (own_of j h)) (let same : i + suc k ≡ suc i + k = omega arith in same)
      (each (suc k) (omega (arith, lt)))),
)

shares_many : (grants start workers i n : ℕ) → length (shares_from grants start workers i n) ≡ n
shares_many grants start workers i zero = refl
shares_many grants start workers i (suc n) = ap suc (shares_many grants start workers (suc i) n)

below : (n : ℕ) (h : List GnapEntry) → ((k : ℕ) → n ≤ k → NoneOf k h) → Below n h
below n [] others = tt
below n (e ∷ h) others =
    let not_above : n ≤ e.number → ⊥ = λ at. (others e.number at).0 refl in
    (omega (arith, not_above), below n h (λ k at. (others k at).1))

-- all passes came back
pub all_back : (core : Sharing Setup) (grants start : ℕ) (passes : List (PassState Setup GnapEntry)) (total : Tally) → HaveDone core grants start passes total
    → AreAll core passes
all_back core grants start passes total done = record {
  count = ap length (sym done.passes_are) ∙ length-map done.reports (λ (r : PassState Setup GnapEntry × Tally). r.0) ∙ done.count;
  each = λ k p e.
      let r = from_map (λ (r : PassState Setup GnapEntry × Tally). r.0) done.reports k p (ap (λ l. get_elem? l k) done.passes_are ∙ e) in
      let here = done.each k r.0 r.1 in
      subst (λ (q : PassState Setup GnapEntry). IsPassOf core q × (q.number ≡ k)) r.2 (here.of, here.number);
}

module _ (core : Sharing Setup) (grants start workers : ℕ) (passes : List (PassState Setup GnapEntry)) (total : Tally) (h : List GnapEntry)
    (rules : core.rules ≡ load_setup) (many : core.count ≡ workers) (done : HaveDone core grants start passes total)
    (legal : Legal gnap core.rules h) (joins : Joined (map (λ (p : PassState Setup GnapEntry). p.seen) passes) h) where
  abbrev Report : Type 0
  Report = PassState Setup GnapEntry × Tally

  as_many : length passes ≡ core.count
  as_many = (all_back core grants start passes total done).count

  own_at : (k : ℕ) (r : Report) → get_elem? done.reports k ≡ some r → own_of k h ≡ own_of k r.0.seen
  own_at k r at =
      let here : get_elem? passes k ≡ some r.0 = ap (λ l. get_elem? l k) (sym done.passes_are) ∙ to_map (λ (r : Report). r.0) done.reports k r at in
      let there = joins.each k r.0.seen (to_map (λ (p : PassState Setup GnapEntry). p.seen) passes k r.0 here) in
      ap (own_of k) there.1 ∙ own-others k r.0.seen there.0 there.2

  others : (k : ℕ) → core.count ≤ k → NoneOf k h
  others k at = joins.others k (
      let a = length-map passes (λ (p : PassState Setup GnapEntry). p.seen) in
      let b = as_many in
      omega (arith, a, b, at))

  share_at : (k : ℕ) → k < core.count → IsDrawnShare grants start core.count (0 + k) (own_of (0 + k) h)
  share_at k lt =
      let r = there_is done.reports k (subst (λ n. k < n) (sym done.count) lt) in
      let zeroed : k ≡ 0 + k = omega arith in
      subst (λ j. IsDrawnShare grants start core.count j (own_of j h)) zeroed
      (subst (λ l. IsDrawnShare grants start core.count k l) (sym (own_at k r.0 r.1)) (done.each k r.0 r.1).counted.share)

  counted_at : (k : ℕ) (t : Tally) → get_elem? (map (λ (r : Report). r.1) done.reports) k ≡ some t → Adds (tally_of (own_of (0 + k) h)) none_counted t
  counted_at k t at =
      let r = from_map (λ (r : Report). r.1) done.reports k t at in
      let zeroed : k ≡ 0 + k = omega arith in
      let here = subst (λ l. Adds (tally_of l) none_counted r.0.1) (sym (own_at k r.0 r.1)) (done.each k r.0 r.1).counted.counted in
      subst (λ j. Adds (tally_of (own_of j h)) none_counted t) zeroed (subst (λ u. Adds (tally_of (own_of k h)) none_counted u) r.2 here)

  counted_all : (one : Reply → ℕ) (field : Tally → ℕ) → field total ≡ sum_by_tally field (map (λ (r : Report). r.1) done.reports)
      → ((k : ℕ) (t : Tally) → get_elem? (map (λ (r : Report). r.1) done.reports) k ≡ some t → field t ≡ count_by one (own_of (0 + k) h))
      → field total ≡ 0 + count_by one h
  counted_all one field sum is =
      let long = length-map done.reports (λ (r : Report). r.1) in
      let count = done.count in
      let all = from_all one field 0 (map (λ (r : Report). r.1) done.reports) h is (λ k at. others k (omega (arith, at, long, count))) in
      let first = from_first one h in
      omega (arith, sum, all, first)

  counted : Adds (tally_of h) none_counted total
  counted = record {
    active = counted_all one_if_active (λ t. t.active) (ap (λ (t : Tally). t.active) done.total_is)
        (λ k t at. (let a = (counted_at k t at).active in omega (arith, a)));
    inactive = counted_all one_if_inactive (λ t. t.inactive) (ap (λ (t : Tally). t.inactive) done.total_is)
        (λ k t at. (let a = (counted_at k t at).inactive in omega (arith, a)));
    done = counted_all one_if_done (λ t. t.done) (ap (λ (t : Tally). t.done) done.total_is) (λ k t at. (let a = (counted_at k t at).done in omega (arith, a)));
  }

  pub is_load : IsLoad grants start workers total
  is_load =
      let here : IsLoad grants start core.count total = record {
        one = record {
          history = h;
          legal = subst (λ r. Legal gnap r h) rules legal;
          numbers = below (length (shares_from grants start core.count 0 core.count)) h
              (λ k at. others k (subst (λ n. n ≤ k) (shares_many grants start core.count 0 core.count) at));
          each = meet_shares grants start core.count 0 core.count h share_at;
        };
        counted = counted;
      } in
      subst (λ n. IsLoad grants start n total) many here

-- ---- one report more

module _ (core : Sharing Setup) (grants start : ℕ) where
  -- what came back so far, and that no total is too large
  pub record HaveDoneSoFar (passes : List (PassState Setup GnapEntry)) (total : Tally) : Type 0 where
    pub reports : List (PassState Setup GnapEntry × Tally)
    pub passes_are : map (λ r. r.0) reports ≡ passes
    pub total_is : total ≡ sum_of_tallies (map (λ r. r.1) reports)
    pub each : (k : ℕ) (r : PassState Setup GnapEntry × Tally) → get_elem? reports k ≡ some r → HasDone core grants start k r.0 r.1

  pub done-next : (passes passes' : List (PassState Setup GnapEntry)) (pass : PassState Setup GnapEntry) (total total' tally : Tally)
      → HaveDoneSoFar passes total → passes' ≡ passes ++ pass ∷ [] → Adds tally total total' → HasDone core grants start (length passes) pass tally
      → HaveDoneSoFar passes' total'
  done-next passes passes' pass total total' tally done pushed adds next =
      let long : length done.reports ≡ length passes = sym (length-map done.reports (λ (r : PassState Setup GnapEntry × Tally). r.0))
      ∙ ap length done.passes_are in
      record {
        reports = done.reports ++ (pass, tally) ∷ [];
        passes_are = map-append (λ (r : PassState Setup GnapEntry × Tally). r.0) done.reports ((pass, tally) ∷ []) ∙ ap (λ l. l ++ pass ∷ []) done.passes_are
            ∙ sym pushed;
        total_is = sum-next (map (λ r. r.1) done.reports) tally total total' done.total_is adds
            ∙ ap sum_of_tallies (sym (map-append (λ (r : PassState Setup GnapEntry × Tally). r.1) done.reports ((pass, tally) ∷ [])));
        each = each-next (λ k r. HasDone core grants start k r.0 r.1) done.reports (pass, tally) done.each
            (subst (λ n. HasDone core grants start n pass tally) (sym long) next);
      }

below_one : (h : List GnapEntry) → EachOf 0 h → Below 1 h
below_one [] each = tt
below_one (e ∷ h) each = (subst (λ n. n < 1) (sym each.0) (omega arith), below_one h each.1)

-- who is alone has put the load through, in one history of its own
pub load_of_one : (grants start : ℕ) (tally : Tally) (seen : List GnapEntry → Type 0) (p : DoesShare grants start 1 0 0 seen [] tally)
    → EachOf 0 p.history → Legal gnap load_setup p.history → IsLoad grants start 1 tally
load_of_one grants start tally seen p all legal =
    let k : List GnapEntry = p.history in
    let whole : k ≡ p.entries = sym (own-all 0 k all) ∙ p.own in
    record {
      one = record {
        history = k;
        legal = legal;
        numbers = below_one k all;
        each = (subst (IsDrawnShare grants start 1 0) (sym p.own) p.is_done, tt);
      };
      counted = subst (λ l. Adds (tally_of l) none_counted tally) (sym whole) p.counted;
    }
