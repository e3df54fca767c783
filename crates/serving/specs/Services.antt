-- What serving at an address leaves behind.
use Rattle.std.specs.Prelude.{◌≡◌, ℕ, ◌≤◌, List, All, length, Result, Err}
use Rattle.outside.specs.Outside.{Served}
use Rattle.outside.specs.Gears.{GearState}
use Rattle.outside.specs.Worlds.{WorldState, HasWorldCause, with_opening, with_gears}
use Rattle.outside.specs.declared.world.Opening.TheVariants as opening
use Rattle.outside.specs.declared.world.WorldFault.{WorldFault}
use Rattle.histories.specs.declared.entry.Entry.{Entry}
use Rattle.histories.specs.History.{Law}
use Rattle.histories.specs.Turns.{Turn}
use Rattle.histories.specs.Whole.{OneHistory}
use Rattle.serving.specs.Workers.{accounts_of}
use Rattle.serving.specs.ServiceEnds.{IsEndOfService}

module _ {Message Rules Call Reply Note : Type 0} (law : Law Rules Call Reply Note) (rules : Rules)
    (session : Served → List (Turn Message (Entry Call Reply Note)) → Type 0) where
  -- There is one legal history by these rules, which accounts, by the entries of each gear's number, for what that gear tells: for the bytes of each
  -- connection, the moments and the words. No gear served more connections than it might, and none is out.
  pub record AreServed (quota : ℕ) (gears : List GearState) : Type 0 where
    pub one : OneHistory law rules (accounts_of session gears)
    pub few : All (λ gear. length gear.log.served ≤ quota) gears
    pub out : All (λ gear. gear.out ≡ 0) gears

  -- Either no gear was started, or as many as asked for were started at the address, served, and taken back.
  pub data IsService {Done : Type 0} (address : List ℕ) (n quota : ℕ) (before after : WorldState) : Result Done WorldFault → Type 0 where
    not_started : (fault : WorldFault) → after ≡ record before { faults = after.faults } → HasWorldCause before.faults after.faults fault
        → IsService address n quota before after (Err fault)
    served : (result : Result Done WorldFault) (gears : List GearState) → after ≡ with_gears gears (with_opening (opening.Gears address n quota) before)
        → length gears ≡ n → AreServed quota gears → IsEndOfService gears result → IsService address n quota before after result
