-- What a command opens, and that it gives all of it back.
use Rattle.std.specs.Prelude.{◌≡◌, ℕ, ◌+◌, List, [], ◌∷◌, ◌++◌, length, drop, Bool, true, false, Option, Some, None, IsSome}
use Rattle.outside.specs.declared.world.Opening.{Opening}
use Rattle.outside.specs.declared.world.Opening.TheVariants.{File, Gears, Link}
use Rattle.outside.specs.Outside.{Served}
use Rattle.outside.specs.Gears.{GearState}
use Rattle.outside.specs.Links.{LinkState}
use Rattle.outside.specs.Worlds.{WorldState}

-- how many of the openings are files
abbrev pub files_in : List Opening → ℕ
files_in [] = 0
files_in (File name ∷ os) = files_in os + 1
files_in (Gears address n quota ∷ os) = files_in os
files_in (Link address ∷ os) = files_in os

-- how many gears the last of the openings that is gears gave
abbrev pub or_else : Option ℕ → Option ℕ → Option ℕ
or_else None other = other
or_else (Some n) other = Some n

abbrev pub gears_in : List Opening → Option ℕ
gears_in [] = None
gears_in (File name ∷ os) = gears_in os
gears_in (Gears address n quota ∷ os) = or_else (gears_in os) (Some n)
gears_in (Link address ∷ os) = gears_in os

abbrev pub has_link : List Opening → Bool
has_link [] = false
has_link (File name ∷ os) = has_link os
has_link (Gears address n quota ∷ os) = has_link os
has_link (Link address ∷ os) = true

-- as many gears as were opened are back, or nothing was opened and taken back
abbrev pub GearsBack : Option ℕ → List GearState → List GearState → Type 0
GearsBack None before after = after ≡ before
GearsBack (Some n) before after = length after ≡ n

abbrev pub LinkBack : Bool → Option LinkState → Option LinkState → Type 0
LinkBack false before after = after ≡ before
LinkBack true before after = IsSome after

-- Just these were opened, and the world has all of it back: one more file for each file, in order, and the gears and the link.
pub record Gives (done : List Opening) (before after : WorldState) : Type 0 where
  pub opened : after.opened ≡ before.opened ++ done
  pub files : List Served
  pub files_are : after.files ≡ before.files ++ files
  pub many : length files ≡ files_in done
  pub lent : after.lent ≡ before.lent
  pub gears : GearsBack (gears_in done) before.gears after.gears
  pub link : LinkBack (has_link done) before.link after.link

-- The first of these were opened, and the world has all of it back.
pub record GivesBack (openings : List Opening) (before after : WorldState) : Type 0 where
  pub done : List Opening
  pub rest : List Opening
  pub whole : openings ≡ done ++ rest
  pub gives : Gives done before after

-- the files that came back, in order
abbrev pub new_files : WorldState → WorldState → List Served
new_files before after = drop (length before.files) after.files
