-- Workers at one shared core, and what comes back of them.
use Rattle.std.specs.Prelude.{◌≡◌, ℕ, ◌*◌, ◌<◌, ◌≤◌, List, [], length, map, Bool, false, Result, IfOk}
use mathlib.Core.Option.{some}
use lib.ListN.{get_elem?}
use Rattle.bytes_and_lists.specs.declared.memory.Mem.{Mem}
use Rattle.histories.specs.Whole.{own_of}
use Rattle.shared_server.specs.Passes.{Sharing, PassState, StationState, IsPassOf}
use Rattle.gnap_model.specs.declared.objects.Setup.{Setup}
use Rattle.grant_machine.specs.Gnap.{GnapEntry}
use Rattle.desk_load.specs.declared.tally.Tally.{Tally}
use Rattle.desk_load.specs.Loads.{IsDrawnShare}
use Rattle.desk_load.specs.Tallies.{counted_in, none_counted, tally_of, Adds, sum_of_tallies}

-- The entries of a number in what was seen are the share of a worker with its words, and the tally is that of their replies.
pub record HasCounted (grants start workers worker number : ℕ) (seen : List GnapEntry) (tally : Tally) : Type 0 where
  pub share : IsDrawnShare grants start workers worker (own_of number seen)
  pub counted : Adds (tally_of (own_of number seen)) none_counted tally
  pub most : counted_in tally ≤ 7 * grants

-- A worker: its station, which share it does, under which START, whether it has begun, and what it counted.
pub record WorkerState : Type 0 where
  pub station : StationState Setup GnapEntry
  pub grants : ℕ
  pub start : ℕ
  pub workers : ℕ
  pub worker : ℕ
  pub begun : Bool
  pub made : Result Tally Mem

-- What a worker's type keeps. Nothing was seen before it begins, and what it counted is of its share.
pub record IsSoundWorker (w : WorkerState) : Type 0 where
  pub some : 0 < w.workers
  pub unseen : w.begun ≡ false → w.station.seen ≡ []
  pub counted : IfOk w.made (HasCounted w.grants w.start w.workers w.worker w.station.number w.station.seen)

-- what work leaves of a worker
pub record IsSameWorker (before after : WorkerState) : Type 0 where
  pub home : after.station.home ≡ before.station.home
  pub number : after.station.number ≡ before.station.number
  pub grants : after.grants ≡ before.grants
  pub start : after.start ≡ before.start
  pub workers : after.workers ≡ before.workers
  pub worker : after.worker ≡ before.worker

-- a worker of this number, of all that share so many grants at this core under this START
pub record IsWorker (core : Sharing Setup) (grants start k : ℕ) (w : WorkerState) : Type 0 where
  pub home : w.station.home ≡ core
  pub number : w.station.number ≡ k
  pub grants_are : w.grants ≡ grants
  pub start_is : w.start ≡ start
  pub workers_are : w.workers ≡ core.count
  pub worker_is : w.worker ≡ k

-- all workers, in order
pub record AreWorkers (core : Sharing Setup) (grants start : ℕ) (workers : List WorkerState) : Type 0 where
  pub count : length workers ≡ core.count
  pub each : (k : ℕ) (w : WorkerState) → get_elem? workers k ≡ some w → IsWorker core grants start k w

-- A pass of this number came back from a worker that has counted this.
pub record HasDone (core : Sharing Setup) (grants start k : ℕ) (pass : PassState Setup GnapEntry) (tally : Tally) : Type 0 where
  pub of : IsPassOf core pass
  pub number : pass.number ≡ k
  pub counted : HasCounted grants start core.count k k pass.seen tally

-- All passes came back, in order, and the total is what all workers counted.
pub record HaveDone (core : Sharing Setup) (grants start : ℕ) (passes : List (PassState Setup GnapEntry)) (total : Tally) : Type 0 where
  pub reports : List (PassState Setup GnapEntry × Tally)
  pub passes_are : map (λ r. r.0) reports ≡ passes
  pub total_is : total ≡ sum_of_tallies (map (λ r. r.1) reports)
  pub count : length reports ≡ core.count
  pub each : (k : ℕ) (r : PassState Setup GnapEntry × Tally) → get_elem? reports k ≡ some r → HasDone core grants start k r.0 r.1
