-- How the serving of gears ends.
use Rattle.std.specs.Prelude.{◌≡◌, ◌⊎◌, ℕ, nat_lt, Bool, true, List, All, length, Result, Ok, Err}
use Rattle.std.specs.List.{list_any}
use Rattle.outside.specs.Gears.{GearState, IsUnused}
use Rattle.outside.specs.declared.world.WorldFault.{WorldFault}
use Rattle.outside.specs.declared.world.WorldFault.TheVariants.{Failed, OutOfMemory}

-- the door failed
abbrev pub has_failed : GearState → Bool
has_failed gear = nat_lt 0 gear.faults

-- the door gave all its connections, and never failed
pub record IsUsedUp (gear : GearState) : Type 0 where
  pub left : gear.left ≡ 0
  pub unfailed : gear.faults ≡ 0

-- the door failed, or gave all its connections
abbrev pub IsEndOfDoor : GearState → Type 0
IsEndOfDoor gear = (has_failed gear ≡ true) ⊎ IsUsedUp gear

-- How it ended: each door gave all its connections; or one failed, and each that didn't gave all of them; or memory ran out before the first connection.
abbrev pub IsEndOfService : {Done : Type 0} → List GearState → Result Done WorldFault → Type 0
IsEndOfService gears (Ok done) = All IsUsedUp gears
IsEndOfService gears (Err Failed) = (list_any has_failed gears ≡ true) × All IsEndOfDoor gears
IsEndOfService gears (Err OutOfMemory) = All IsUnused gears

-- each gear served just so many connections
abbrev pub HaveServedJust : ℕ → List GearState → Type 0
HaveServedJust quota gears = All (λ gear. length gear.log.served ≡ quota) gears
