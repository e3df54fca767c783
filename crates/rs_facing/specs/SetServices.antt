-- What serving the resource sets of a setup at an address leaves behind.
use Rattle.std.specs.Prelude.{◌≡◌, ℕ, List, All, length, Result, Err}
use Rattle.outside.specs.Gears.{GearState}
use Rattle.outside.specs.Worlds.{WorldState, HasWorldCause, with_opening, with_gears}
use Rattle.outside.specs.declared.world.Opening.TheVariants as opening
use Rattle.outside.specs.declared.world.WorldFault.{WorldFault}
use Rattle.histories.specs.Whole.{OneHistory}
use Rattle.serving.specs.Workers.{accounts_of}
use Rattle.serving.specs.ServiceEnds.{IsEndOfService}
use Rattle.gnap_model.specs.declared.objects.Setup.{Setup}
use Rattle.resource_sets.specs.Sets.{sets}
use Rattle.resource_sets.specs.Laws.{SetsHold}
use Rattle.rs_facing.specs.SetSessions.{IsSetSession}

-- There is one legal history of the setup's machine of sets, which accounts, by the entries of each gear's number, for what that gear tells: for the bytes of
-- each connection, the moments and the words. In it a reference that was handed out keeps its meaning, and a set its reference. No connection is out.
pub record SetsAreServed (setup : Setup) (gears : List GearState) : Type 0 where
  pub one : OneHistory sets setup (accounts_of (IsSetSession setup) gears)
  pub holds : SetsHold one.history
  pub out : All (λ gear. gear.out ≡ 0) gears

-- Either no gear was started, or as many as asked for were started at the address, served, and taken back.
pub data IsSetService {Done : Type 0} (setup : Setup) (address : List ℕ) (n quota : ℕ) (before after : WorldState) : Result Done WorldFault → Type 0 where
  not_started : (fault : WorldFault) → after ≡ record before { faults = after.faults } → HasWorldCause before.faults after.faults fault
      → IsSetService setup address n quota before after (Err fault)
  served : (result : Result Done WorldFault) (gears : List GearState) → after ≡ with_gears gears (with_opening (opening.Gears address n quota) before)
      → length gears ≡ n → SetsAreServed setup gears → IsEndOfService gears result → IsSetService setup address n quota before after result
