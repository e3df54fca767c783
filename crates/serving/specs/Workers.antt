-- What a worker is, what it keeps, and what its work may change.
use Rattle.std.specs.Prelude.{◌≡◌, ◌⊎◌, ℕ, ◌+◌, ◌*◌, ◌<◌, ◌≤◌, List, [], ◌∷◌, length}
use mathlib.Core.Option.{some}
use lib.ListN.{get_elem?}
use Rattle.outside.specs.Outside.{Served, Rose}
use Rattle.outside.specs.Gears.{GearState}
use Rattle.histories.specs.declared.entry.Entry.{Entry}
use Rattle.histories.specs.History.{Law, Legal}
use Rattle.serving.specs.Logs.{IsAccount}
use Rattle.histories.specs.Turns.{Turn}
use Rattle.histories.specs.Whole.{own_of}
use Rattle.shared_server.specs.Passes.{Sharing, StationState}

-- A worker: its front, its station, and what its gear counts and tells.
pub record WorkerState (Front Rules E : Type 0) : Type 0 where
  pub front : Front
  pub station : StationState Rules E
  pub gear : GearState

-- What a worker's type keeps. What was seen is legal by the rules, the gear is accounted for, no connection is out, and all connections
-- that may still come have room in the worker's entries.
pub record IsSoundWorker {Message Front Rules Call Reply Note : Type 0} (law : Law Rules Call Reply Note)
    (session : Served → List (Turn Message (Entry Call Reply Note)) → Type 0) (rules : Rules) (w : WorkerState Front Rules (Entry Call Reply Note)) : Type 0
  where
    pub rules_are : w.station.home.rules ≡ rules
    pub legal : Legal law rules w.station.seen
    pub account : IsAccount session w.gear.log (own_of w.station.number w.station.seen)
    pub room : length (own_of w.station.number w.station.seen) + 2000 * w.gear.left + 2000 < 4503599627370496
    pub out : w.gear.out ≡ 0

-- What serving leaves of a worker: its front, the core and the number. Its door gives no more connections than before.
pub record IsSameWorker {Front Rules E : Type 0} (before after : WorkerState Front Rules E) : Type 0 where
  pub front : after.front ≡ before.front
  pub home : after.station.home ≡ before.station.home
  pub number : after.station.number ≡ before.station.number
  pub left : after.gear.left ≤ before.gear.left

-- one connection was served
pub record HasServedOne (before after : GearState) : Type 0 where
  pub served : length after.log.served ≡ length before.log.served + 1
  pub left : after.left + 1 ≡ before.left
  pub faults : after.faults ≡ before.faults

-- All connections that a gear's door gave were served and taken back; and it gives no more, or it failed.
pub record HasServedAll (before after : GearState) : Type 0 where
  pub served : length after.log.served + after.left ≡ length before.log.served + before.left
  pub done : ((after.left ≡ 0) × (after.faults ≡ before.faults)) ⊎ Rose before.faults after.faults

-- the worker served all that its door gave
pub record Drained {Front Rules E : Type 0} (before after : WorkerState Front Rules E) : Type 0 where
  pub same : IsSameWorker before after
  pub all : HasServedAll before.gear after.gear

module _ {Front Rules E : Type 0} (core : Sharing Rules) (front : Front) where
  -- the first workers at a core that have this front, in the order of their numbers
  abbrev pub ArePlaced : List (WorkerState Front Rules E) → Type 0
  ArePlaced workers = (k : ℕ) (w : WorkerState Front Rules E) → get_elem? workers k ≡ some w
      → (w.station.home ≡ core) × (w.station.number ≡ k) × (w.front ≡ front)

  -- all workers at a core that have this front
  pub record AreWorkers (workers : List (WorkerState Front Rules E)) : Type 0 where
    pub count : length workers ≡ core.count
    pub each : ArePlaced workers

-- each gear served all that its door gave
abbrev pub HaveServedAll : List GearState → List GearState → Type 0
HaveServedAll [] [] = Unit {0}
HaveServedAll [] (after ∷ afters) = ⊥
HaveServedAll (before ∷ befores) [] = ⊥
HaveServedAll (before ∷ befores) (after ∷ afters) = HasServedAll before after × HaveServedAll befores afters

-- the accounts of workers whose gears count and tell this, in order
abbrev pub accounts_of : {Message Call Reply Note : Type 0} → (Served → List (Turn Message (Entry Call Reply Note)) → Type 0)
    → List GearState → List (List (Entry Call Reply Note) → Type 0)
accounts_of session [] = []
accounts_of session (gear ∷ gears) = IsAccount session gear.log ∷ accounts_of session gears
