-- From workers that are done to one history.
use Rattle.std.proofs.Common.{◌≡◌, ◌∙◌, ℕ, zero, suc, ◌<◌, List, [], ◌∷◌, ◌++◌, map, length, take, drop, slice_index_or, refl, ap, sym, subst, arith}
use Rattle.std.specs.Prelude.{All}
use Rattle.std.proofs.lemmas.List.{append-nil, take_all}
use Rattle.std.proofs.Math.ListN.{drop_of_length-le}
use mathlib.Core.Option.{some, some-injective, some-ne-none}
use lib.ListN.{get_elem?}
use Rattle.outside.specs.Outside.{Served}
use Rattle.outside.specs.Gears.{Log, GearState, IsUnused}
use Rattle.histories.specs.declared.entry.Entry.{Entry}
use Rattle.histories.specs.History.{Law, Legal}
use Rattle.histories.specs.Histories.{legal-nil}
use Rattle.serving.specs.Logs.{IsAccount}
use Rattle.histories.specs.Turns.{Turn}
use Rattle.histories.specs.Whole.{OneHistory, AllKeep, AllMeet, Joined}
use Rattle.serving.proofs.LogLemmas.{account-none}
use Rattle.histories.proofs.WholeLemmas.{one_history}
use Rattle.shared_server.specs.Passes.{Sharing}
use Rattle.serving.specs.Workers.{WorkerState, AreWorkers, HaveServedAll, Drained, accounts_of}

module _ {X : Type 0} where
  at_index : (l : List X) (k : ℕ) (x : X) → get_elem? l k ≡ some x → (k < length l) × (slice_index_or l k x ≡ x)
  at_index [] k x e = absurd (some-ne-none x (sym e))
  at_index (y ∷ l) zero x e = (omega arith, some-injective y x e)
  at_index (y ∷ l) (suc k) x e = let rest = at_index l k x e in let lt = rest.0 in (omega (arith, lt), rest.1)

  index_at : (l : List X) (k : ℕ) (d : X) → k < length l → get_elem? l k ≡ some (slice_index_or l k d)
  index_at [] k d lt = absurd (let lt' : k < 0 = lt in omega (arith, lt'))
  index_at (y ∷ l) zero d lt = refl
  index_at (y ∷ l) (suc k) d lt = index_at l k d (let lt' : suc k < length (y ∷ l) = lt in omega (arith, lt'))

module _ {Front Rules E : Type 0} where
  -- place by place
  abbrev pub EachDrained : List (WorkerState Front Rules E) → List (WorkerState Front Rules E) → Type 0
  EachDrained before after = (i : ℕ) (d : WorkerState Front Rules E) → i < length before → Drained (slice_index_or before i d) (slice_index_or after i d)

  pub same_workers : (core : Sharing Rules) (front : Front) (before after : List (WorkerState Front Rules E)) → EachDrained before after
      → length after ≡ length before
      → AreWorkers core front before → AreWorkers core front after
  same_workers core front before after each long are = record {
    count = long ∙ are.count;
    each = λ k w e.
        let at = at_index after k w e in
        let drained = each k w (subst (λ n. k < n) long at.0) in
        let was = are.each k (slice_index_or before k w) (index_at before k w (subst (λ n. k < n) long at.0)) in (
          ap (λ v. v.station.home) (sym at.1) ∙ drained.same.home ∙ was.0,
          ap (λ v. v.station.number) (sym at.1) ∙ drained.same.number ∙ was.1,
          ap (λ v. v.front) (sym at.1) ∙ drained.same.front ∙ was.2,
        );
  }

  pub all_done : (before after : List (WorkerState Front Rules E)) → EachDrained before after → length after ≡ length before
      → HaveServedAll (map (λ w. w.gear) before) (map (λ w. w.gear) after)
  all_done [] [] each long = tt
  all_done [] (v ∷ after) each long = absurd (omega (arith, long))
  all_done (w ∷ before) [] each long = absurd (omega (arith, long))
  all_done (w ∷ before) (v ∷ after) each long =
      let first : Drained w v = each 0 w (omega arith) in
      (first.all, all_done before after (λ i d lt. each (suc i) d (omega (arith, lt))) (omega (arith, long)))

module _ {Message Rules Call Reply Note : Type 0} (law : Law Rules Call Reply Note) (session : Served → List (Turn Message (Entry Call Reply Note)) → Type 0)
  where
    none_meet : {Gear : Type 0} (state : Gear → GearState) (gears : List Gear) (number : ℕ) → All (λ gear. IsUnused (state gear)) gears
        → AllMeet number (accounts_of session (map state gears)) []
    none_meet state [] number unused = tt
    none_meet {Gear} state (gear ∷ gears) number unused =
        let first : IsUnused (state gear) = unused 0 gear (omega arith) in (
          subst (λ (l : Log). IsAccount session l []) (sym (ap (λ (g : GearState). g.log) first)) (account-none session),
          none_meet state gears (suc number)
              (λ k d lt. unused (suc k) d (omega (arith, lt))),
        )

    -- gears that did nothing are accounted for by the empty history
    pub one_unused : {Gear : Type 0} (state : Gear → GearState) (gears : List Gear) (rules : Rules) → All (λ gear. IsUnused (state gear)) gears
        → OneHistory law rules (accounts_of session (map state gears))
    one_unused state gears rules unused = record {
      history = [];
      legal = legal-nil law rules;
      numbers = tt;
      each = none_meet state gears 0 unused;
    }

-- all that workers have seen is of one history, in which each account holds
pub one_of_all : {Message Rules Call Reply Note : Type 0} (law : Law Rules Call Reply Note)
    (session : Served → List (Turn Message (Entry Call Reply Note)) → Type 0) (rules rules_shared : Rules)
    (gears : List GearState) (seen : List (List (Entry Call Reply Note))) (h : List (Entry Call Reply Note))
    → rules_shared ≡ rules → AllKeep 0 (accounts_of session gears) seen → Joined seen h → Legal law rules_shared h
    → OneHistory law rules (accounts_of session gears)
one_of_all law session rules rules_shared gears seen h same keeps joins legal =
    one_history law (accounts_of session gears) rules seen h keeps joins (subst (λ r. Legal law r h) same legal)

-- what was written through a slice is what the vector has
pub written_back : {X : Type 0} (n : ℕ) (old new : List X) → length new ≡ length old → length old ≡ n → take n (new ++ drop (length new) old) ≡ new
written_back n old new long size =
    ap (λ l. take n (new ++ l)) (drop_of_length-le old (omega (arith, long))) ∙ ap (take n) (append-nil new) ∙ take_all n new (omega (arith, long, size))

pub out_unused : {Gear : Type 0} (state : Gear → GearState) (gears : List Gear) → All (λ gear. IsUnused (state gear)) gears
    → All (λ gear. (state gear).out ≡ 0) gears
out_unused state gears unused k d lt = ap (λ (g : GearState). g.out) (unused k d lt)
