-- A worker after one more connection.
use Rattle.std.proofs.Common.{◌≡◌, ◌≢◌, ◌∙◌, inl, inr, ◌+◌, ◌-◌, ◌*◌, ◌<◌, List, [], ◌∷◌, ◌++◌, length, refl, ap, sym, subst, arith, length-append}
use Rattle.std.specs.Prelude.{map, Option, Some, None, Result, Ok, Err}
use Rattle.outside.specs.declared.device.Failed.{Failed}
use Rattle.outside.specs.Outside.{Served}
use Rattle.outside.specs.Gears.{Log, GearState, Accepts, IsUnused, with_served, log_served, log_uses}
use Rattle.histories.specs.declared.entry.Entry.{Entry}
use Rattle.histories.specs.History.{Law, Legal}
use Rattle.histories.specs.Histories.{legal-nil}
use Rattle.serving.specs.Logs.{Serves, IsAccount}
use Rattle.histories.specs.Turns.{Turn, moments_in, entries_in, draw_of}
use Rattle.histories.specs.Whole.{own_of}
use Rattle.serving.proofs.LogLemmas.{account-none, account-longer}
use Rattle.shared_server.specs.Passes.{StationState}
use Rattle.serving.specs.Workers.{WorkerState, IsSoundWorker, IsSameWorker, HasServedOne, HasServedAll}

-- what is known of a connection that a door gave
pub gave_one : {Conn : Type 0} (before after : GearState) (given : Option Conn) (conn : Conn) → given ≡ Some conn
    → (let r : Result (Option Conn) Failed = Ok given in Accepts before after r)
    → (0 < before.left) × (after ≡ record before { out = before.out + 1; left = before.left - 1 })
gave_one {Conn} before after given conn is accepts =
    let P : Option Conn → Type 0 = λ o. (let r : Result (Option Conn) Failed = Ok o in Accepts before after r) in
    subst P is accepts

module _ {Message Front Rules Call Reply Note : Type 0} (law : Law Rules Call Reply Note)
    (session : Served → List (Turn Message (Entry Call Reply Note)) → Type 0) (rules : Rules)
    (w : WorkerState Front Rules (Entry Call Reply Note)) (keeps : IsSoundWorker law session rules w)
    (gear1 gear2 gear3 : GearState) (station : StationState Rules (Entry Call Reply Note)) (conn : Served)
    (some_left : 0 < w.gear.left) (gave : gear1 ≡ record w.gear { out = w.gear.out + 1; left = w.gear.left - 1 })
    (home : station.home ≡ w.station.home) (number : station.number ≡ w.station.number)
    (serves : (h : List (Entry Call Reply Note)) → (h ≡ w.station.seen) × Legal law w.station.home.rules h
    → Serves session w.station.number (λ k. (k ≡ station.seen) × Legal law station.home.rules k) h gear1 gear2 conn) where
  served : Serves session w.station.number (λ k. (k ≡ station.seen) × Legal law station.home.rules k) w.station.seen gear1 gear2 conn
  served = serves w.station.seen (refl, subst (λ (r : Rules). Legal law r w.station.seen) (sym keeps.rules_are) keeps.legal)

  pub one_out : 0 < gear2.out
  one_out =
      let used = ap (λ (g : GearState). g.out) served.used in
      let out = ap (λ (g : GearState). g.out) gave in
      omega (arith, used, out)

  module _ (back : gear3 ≡ with_served conn gear2) where
    own_now : own_of station.number station.seen ≡ own_of w.station.number w.station.seen ++ entries_in served.turns
    own_now = ap (λ n. own_of n station.seen) number ∙ ap (own_of w.station.number) (sym served.seen_now.0) ∙ served.own

    uses : gear2.log ≡ log_uses (moments_in served.turns) (map draw_of (entries_in served.turns)) w.gear.log
    uses = ap (λ (g : GearState). g.log) served.used
        ∙ ap (λ (g : GearState). log_uses (moments_in served.turns) (map draw_of (entries_in served.turns)) g.log) gave

    log_now : gear3.log ≡ log_served conn gear2.log
    log_now = ap (λ (g : GearState). g.log) back

    left_now : gear3.left ≡ w.gear.left - 1
    left_now = ap (λ (g : GearState). g.left) back ∙ ap (λ (g : GearState). g.left) served.used ∙ ap (λ (g : GearState). g.left) gave

    faults_now : gear3.faults ≡ w.gear.faults
    faults_now = ap (λ (g : GearState). g.faults) back ∙ ap (λ (g : GearState). g.faults) served.used ∙ ap (λ (g : GearState). g.faults) gave

    pub keeps_on : IsSoundWorker law session rules (record { front = w.front; station = station; gear = gear3 })
    keeps_on = record {
      rules_are = ap (λ h. h.rules) home ∙ keeps.rules_are;
      legal = subst (λ (r : Rules). Legal law r station.seen) (ap (λ h. h.rules) home ∙ keeps.rules_are)
          (subst (λ (k : List (Entry Call Reply Note)). Legal law station.home.rules k) served.seen_now.0 served.seen_now.1);
      account = subst (λ (l : Log). IsAccount session l (own_of station.number station.seen)) (sym log_now)
          (account-longer session w.gear.log gear2.log (own_of w.station.number w.station.seen) (own_of station.number station.seen) conn served.turns
          keeps.account served.session uses own_now);
      room = (
          let size = ap length own_now in
          let sum = length-append (own_of w.station.number w.station.seen) (entries_in served.turns) in
          let few = served.few in
          let left = left_now in
          let was = keeps.room in
          omega (arith, size, sum, few, left, was, some_left));
      out = (
          let out3 = ap (λ (g : GearState). g.out) back in
          let out2 = ap (λ (g : GearState). g.out) served.used in
          let out1 = ap (λ (g : GearState). g.out) gave in
          let was = keeps.out in
          omega (arith, out3, out2, out1, was));
    }

    pub same_on : IsSameWorker w (record { front = w.front; station = station; gear = gear3 })
    same_on = record {
      front = refl;
      home = home;
      number = number;
      left = (let left = left_now in omega (arith, left));
    }

    pub served_on : HasServedOne w.gear gear3
    served_on = record {
      served = ap (λ (l : Log). length l.served) log_now ∙ length-append gear2.log.served (conn ∷ []) ∙ ap (λ (l : Log). length l.served + 1) uses;
      left = (let left = left_now in omega (arith, left, some_left));
      faults = faults_now;
    }

-- a worker that has seen nothing, with a gear that has done nothing
pub sound-start : {Message Front Rules Call Reply Note : Type 0} (law : Law Rules Call Reply Note)
    (session : Served → List (Turn Message (Entry Call Reply Note)) → Type 0) (rules : Rules) (w : WorkerState Front Rules (Entry Call Reply Note))
    → w.station.home.rules ≡ rules → w.station.seen ≡ [] → IsUnused w.gear → 2000 * w.gear.left + 2000 < 4503599627370496 → IsSoundWorker law session rules w
sound-start law session rules w same unseen unused fits =
    let none : own_of w.station.number w.station.seen ≡ [] = ap (own_of w.station.number) unseen in
    record {
      rules_are = same;
      legal = subst (Legal law rules) (sym unseen) (legal-nil law rules);
      account = subst (IsAccount session w.gear.log) (sym none)
          (subst (λ (l : Log). IsAccount session l []) (sym (ap (λ (g : GearState). g.log) unused)) (account-none session));
      room = (let size = ap length none in omega (arith, size, fits));
      out = ap (λ (g : GearState). g.out) unused;
    }

-- the door gave none
pub served-none : {Conn : Type 0} (before after : GearState) (r : Result (Option Conn) Failed) → Accepts before after r
    → ((given : Conn) → r ≢ Ok (Some given)) → HasServedAll before after
served-none before after (Ok (Some given)) accepts none = absurd (none given refl)
served-none before after (Ok None) accepts none = record {
  served = ap (λ (g : GearState). length g.log.served + g.left) accepts.1;
  done = inl (ap (λ (g : GearState). g.left) accepts.1 ∙ accepts.0, ap (λ (g : GearState). g.faults) accepts.1);
}
served-none before after (Err e) accepts none = record {
  served = ap (λ (g : GearState). length g.log.served + g.left) accepts.0;
  done = inr accepts.1;
}

pub same-none : {Front Rules E : Type 0} (w : WorkerState Front Rules E) → IsSameWorker w w
same-none w = record { front = refl; home = refl; number = refl; left = omega arith }

pub same-then : {Front Rules E : Type 0} (u v w : WorkerState Front Rules E) → IsSameWorker u v → IsSameWorker v w → IsSameWorker u w
same-then u v w first second = record {
  front = second.front ∙ first.front;
  home = second.home ∙ first.home;
  number = second.number ∙ first.number;
  left = (let a = first.left in let b = second.left in omega (arith, a, b));
}
