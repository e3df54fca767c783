-- What a worker's part of the outside counts and tells, and what its calls may change.
use Rattle.std.specs.Prelude.{◌≡◌, ℕ, ◌+◌, ◌-◌, ◌<◌, ◌≤◌, List, [], ◌∷◌, ◌++◌, All, length, Result, Ok, Err, Option, Some, None}
use Rattle.outside.specs.Outside.{Served, Rose}

-- What a gear tells: the connections that it took back, the moments that its clock gave, and its draws, each in order.
pub record Log : Type 0 where
  pub served : List Served
  pub moments : List ℕ
  pub draws : List (List ℕ)

abbrev pub empty_log : Log
empty_log = record { served = []; moments = []; draws = [] }

-- What a gear counts, and its log. Out are the connections that it gave and has not taken back, left are those that it may still give.
pub record GearState : Type 0 where
  pub out : ℕ
  pub left : ℕ
  pub faults : ℕ
  pub log : Log

-- a gear that may give so many connections, and has done nothing yet
abbrev pub new_gear : ℕ → GearState
new_gear left = record { out = 0; left = left; faults = 0; log = empty_log }

-- a connection was taken back
abbrev pub log_served : Served → Log → Log
log_served conn log = record log { served = log.served ++ conn ∷ [] }

abbrev pub with_served : Served → GearState → GearState
with_served conn state = record state { out = state.out - 1; log = log_served conn state.log }

-- the clock gave these moments, and these words were drawn, in whatever order
abbrev pub log_uses : List ℕ → List (List ℕ) → Log → Log
log_uses moments draws log = record log { moments = log.moments ++ moments; draws = log.draws ++ draws }

abbrev pub with_uses : List ℕ → List (List ℕ) → GearState → GearState
with_uses moments draws state = record state { log = log_uses moments draws state.log }

-- the clock gave a moment
abbrev pub log_moment : ℕ → Log → Log
log_moment moment log = record log { moments = log.moments ++ moment ∷ [] }

abbrev pub with_moment : ℕ → GearState → GearState
with_moment moment state = record state { log = log_moment moment state.log }

-- words were drawn
abbrev pub log_draw : List ℕ → Log → Log
log_draw draw log = record log { draws = log.draws ++ draw ∷ [] }

abbrev pub with_draw : List ℕ → GearState → GearState
with_draw draw state = record state { log = log_draw draw state.log }

-- The answer to a door that was asked for a connection. None comes only where none is left.
abbrev pub Accepts : {Conn E : Type 0} → GearState → GearState → Result (Option Conn) E → Type 0
Accepts before after (Ok (Some conn)) = (0 < before.left) × (after ≡ record before { out = before.out + 1; left = before.left - 1 })
Accepts before after (Ok None) = (before.left ≡ 0) × (after ≡ before)
Accepts before after (Err e) =
    (after ≡ record before { faults = after.faults }) × Rose before.faults after.faults × (before.faults ≤ after.faults)

-- a gear that has done nothing yet
abbrev pub IsUnused : GearState → Type 0
IsUnused state = state ≡ new_gear state.left

-- so many gears were started, each for so many connections at most
pub record AreStarted {Gear : Type 0} (state : Gear → GearState) (n quota : ℕ) (gears : List Gear) : Type 0 where
  pub many : length gears ≡ n
  pub unused : All (λ gear. IsUnused (state gear)) gears
  pub within : All (λ gear. (state gear).left ≤ quota) gears

-- each may give just so many connections
abbrev pub AreFull : {Gear : Type 0} → (Gear → GearState) → ℕ → List Gear → Type 0
AreFull state quota gears = All (λ gear. (state gear).left ≡ quota) gears
