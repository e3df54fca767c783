-- What a world counts and keeps, and what its calls may change.
use Rattle.std.specs.Prelude.{◌≡◌, ℕ, ◌+◌, ◌-◌, List, [], ◌∷◌, ◌++◌, Option, Some, None}
use Rattle.outside.specs.declared.world.Opening.{Opening}
use Rattle.outside.specs.declared.world.WorldFault.{WorldFault}
use Rattle.outside.specs.declared.world.WorldFault.TheVariants.{Failed, OutOfMemory}
use Rattle.outside.specs.Outside.{Served, Rose}
use Rattle.outside.specs.Gears.{GearState}
use Rattle.outside.specs.Links.{LinkState}

-- What a world counts and keeps: its faults, how many files it gave and has not taken back, the files that it took back, in order, the
-- gears and the link that it took back last, and its openings that were answered Ok, in order.
pub record WorldState : Type 0 where
  pub faults : ℕ
  pub lent : ℕ
  pub files : List Served
  pub gears : List GearState
  pub link : Option LinkState
  pub opened : List Opening

-- a world of which nothing was opened yet
abbrev pub new_world : WorldState
new_world = record { faults = 0; lent = 0; files = []; gears = []; link = None; opened = [] }

-- a file was handed out
abbrev pub with_opened : Opening → WorldState → WorldState
with_opened opening state = record state { lent = state.lent + 1; opened = state.opened ++ opening ∷ [] }

-- a file was taken back
abbrev pub with_returned : Served → WorldState → WorldState
with_returned file state = record state { lent = state.lent - 1; files = state.files ++ file ∷ [] }

-- gears or a link were handed out
abbrev pub with_opening : Opening → WorldState → WorldState
with_opening opening state = record state { opened = state.opened ++ opening ∷ [] }

-- gears were taken back
abbrev pub with_gears : List GearState → WorldState → WorldState
with_gears gears state = record state { gears = gears }

-- a link was taken back
abbrev pub with_link : LinkState → WorldState → WorldState
with_link link state = record state { link = Some link }

-- The world failed only where its count rose. Want of memory leaves the count.
abbrev pub HasWorldCause : ℕ → ℕ → WorldFault → Type 0
HasWorldCause before after Failed = Rose before after
HasWorldCause before after OutOfMemory = after ≡ before
