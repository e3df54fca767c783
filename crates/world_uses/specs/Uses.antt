-- What a command does to the world with files, links and gears that it opens and gives back.
use Rattle.std.specs.Prelude.{◌≡◌, ◌≢◌, ◌≤◌, ◌⊎◌, ℕ, List, [], ◌∷◌, ◌++◌, Any, All, length, drop, slice_get, Option, Some, None, IsSome, Result, Ok, Err}
use Rattle.outside.specs.Outside.{Told, Served, Leaves, IsAtEnd, IsRest, Rose}
use Rattle.outside.specs.declared.world.Opening.{Opening}
use Rattle.outside.specs.declared.world.WorldFault.{WorldFault}
use Rattle.outside.specs.declared.world.WorldFault.TheVariants as faults
use Rattle.outside.specs.Links.{LinkState}
use Rattle.outside.specs.Worlds.{WorldState}
use Rattle.outside.specs.Openings.{Gives, GivesBack, gears_in, new_files}
use Rattle.command_inputs.specs.declared.ended.Ended.{Ended}
use Rattle.command_inputs.specs.declared.ended.Ended.TheVariants.{Done, NoSetup, Failed, WriteFault, Memory, Refused, TooLong}
use Rattle.command_inputs.specs.Ends.{Took}
use Rattle.command_inputs.specs.Configs.{setup_limit}

-- how a command ends for which the world handed nothing out
abbrev pub ended_by_fault : WorldFault → Ended
ended_by_fault faults.Failed = Failed
ended_by_fault faults.OutOfMemory = Memory

-- how one ends by what serving at an address answered
abbrev pub ended_service : Result (Unit {0}) WorldFault → Ended
ended_service (Ok done) = Done
ended_service (Err fault) = ended_by_fault fault

-- ---- a file

-- A file was to be opened. It wasn't, and that is all; or the world has it back. Then its text, where that was known, is what was taken of it and
-- what is left, and P holds of what was taken and of each rest that may be left.
abbrev pub Over : Option (List ℕ) → WorldState → WorldState → Type 0 → (List ℕ → List ℕ → Type 0) → Type 0
Over text before after Unopened P =
    ((after.files ≡ before.files) × Unopened)
    ⊎ ((file : Served) × (after.files ≡ before.files ++ file ∷ []) × Leaves file.told.taken text file.told.left
    × ((rest : List ℕ) → IsRest file.told rest → P file.told.taken rest))

-- without its file a command prints nothing, and ends by a fault or for want of memory
abbrev pub Unopened : Told → Told → Ended → Type 0
Unopened before after ended = (after ≡ before) × ((ended ≡ Failed) ⊎ (ended ≡ Memory))

-- ---- a link to an address

-- A link was to be opened. It wasn't, and that is all; or the world has it back, and P holds of it and of the world as it was opened.
abbrev pub Linked : WorldState → WorldState → Type 0 → (LinkState → WorldState → Type 0) → Type 0
Linked before after Unlinked P =
    ((after.files ≡ before.files) × Unlinked)
    ⊎ ((link : LinkState) × (opened : WorldState) × (opened.files ≡ before.files) × (after.link ≡ Some link) × P link opened)

-- ---- a setup in a file of its own, before what follows

-- without a file there is no setup, for a fault or for want of memory
abbrev pub HasNoConfig : {X : Type 0} → Result X Ended → Type 0
HasNoConfig result = (result ≡ Err Failed) ⊎ (result ≡ Err Memory)

-- Without a setup nothing more is done: its text was read and is none, or the reading failed within the limit, or memory ran out.
abbrev pub EndsWithoutConfig : Ended → List ℕ → Type 0
EndsWithoutConfig (NoSetup why) taken = Unit {0}
EndsWithoutConfig Memory taken = Unit {0}
EndsWithoutConfig Failed taken = length taken ≤ setup_limit
EndsWithoutConfig Done taken = ⊥
EndsWithoutConfig WriteFault taken = ⊥
EndsWithoutConfig Refused taken = ⊥
EndsWithoutConfig TooLong taken = ⊥

-- What follows a file of which these bytes were taken, by what its text reads as.
abbrev pub Follows : {S : Type 0} → Option S → List ℕ → WorldState → WorldState → Told → Told → Ended → (S → Type 0) → Type 0
Follows (Some setup) taken between after out out_now ended Then = Then setup
Follows None taken between after out out_now ended Then = (after ≡ between) × (out_now ≡ out) × EndsWithoutConfig ended taken

-- The setup is what a file's whole text reads as. The file wasn't opened, and that is all; or the world has it back, and what follows is by the
-- setup. Where a read of it failed or memory ran out, what follows is that nothing more was opened.
abbrev pub BySetup : {S : Type 0} → (List ℕ → Option S) → Option (List ℕ) → WorldState → WorldState → Told → Told → Ended → (WorldState → S → Type 0) → Type 0
BySetup read text before after out out_now ended Then =
    ((after.files ≡ before.files) × Unopened out out_now ended)
    ⊎ ((config : Served) × (between : WorldState) × (between.files ≡ before.files ++ config ∷ []) × Leaves config.told.taken text config.told.left
    × ((rest : List ℕ) → IsRest config.told rest
    → Follows (read (config.told.taken ++ rest)) config.told.taken between after out out_now ended (Then between)))

-- ---- the world

-- what was opened, in order
abbrev pub new_openings : WorldState → WorldState → List Opening
new_openings before after = drop (length before.opened) after.opened

-- A failed opening, read or accept was counted: by the world, or by a file or gears that it handed out and has taken back.
abbrev pub HasFailed : WorldState → WorldState → Type 0
HasFailed before after = Rose before.faults after.faults
    ⊎ Any (λ file. file.faults ≢ 0) (new_files before after)
    ⊎ (IsSome (gears_in (new_openings before after)) × Any (λ gear. gear.faults ≢ 0) after.gears)

-- No opening, read or accept failed.
pub record NothingFailed (before after : WorldState) : Type 0 where
  pub world : after.faults ≡ before.faults
  pub files : All (λ file. file.faults ≡ 0) (new_files before after)
  pub doors : IsSome (gears_in (new_openings before after)) → All (λ gear. gear.faults ≡ 0) after.gears

-- so much was taken of the input, which is the file at this place among those that were opened, where it was opened
abbrev pub InputTook : Ended → Option ℕ → WorldState → WorldState → Type 0
InputTook ended input before after = (place : ℕ) → input ≡ Some place
    → (file : Served) → slice_get (new_files before after) place ≡ Some file → Took ended file.told

-- the command was carried out, and its input read to the end
abbrev pub IsCarriedOut : Ended → Type 0
IsCarriedOut ended = (ended ≡ Done) ⊎ (ended ≡ Refused)

-- each file that was opened was read to its end
abbrev pub AreReadToEnd : WorldState → WorldState → Type 0
AreReadToEnd before after = All (λ file. IsAtEnd file.told) (new_files before after)

-- each but the last
abbrev pub AllButLast : {X : Type 0} → (X → Type 0) → List X → Type 0
AllButLast P [] = Unit {0}
AllButLast P (x ∷ []) = Unit {0}
AllButLast P (x ∷ y ∷ more) = P x × AllButLast P (y ∷ more)

-- each file that was opened before another one was read to its end
abbrev pub AreReadBeforeLast : WorldState → WorldState → Type 0
AreReadBeforeLast before after = AllButLast (λ (file : Served). IsAtEnd file.told) (new_files before after)

-- What a command that ended so did to the world.
pub record UsesWorld (openings : List Opening) (input : Option ℕ) (before after : WorldState) (ended : Ended) : Type 0 where
  pub given_back : GivesBack openings before after
  pub all : IsCarriedOut ended → Gives openings before after
  pub failed : ended ≡ Failed → HasFailed before after
  pub sound : ended ≢ Failed → NothingFailed before after
  pub took : InputTook ended input before after
  pub limited : ended ≡ TooLong → IsSome input
  pub to_end : ended ≡ Done → AreReadToEnd before after
  pub configs : ended ≡ Refused → AreReadBeforeLast before after
