-- What serving a resource server at an address leaves behind.
use Rattle.std.specs.Prelude.{◌≡◌, ℕ, Bool, false, List, [], ◌∷◌, Result, Err}
use Rattle.outside.specs.Gears.{GearState}
use Rattle.outside.specs.Links.{LinkState, new_link}
use Rattle.outside.specs.Worlds.{WorldState, HasWorldCause, with_opening, with_gears, with_link}
use Rattle.outside.specs.declared.world.Opening.TheVariants as opening
use Rattle.outside.specs.declared.world.WorldFault.{WorldFault}
use Rattle.serving.specs.ServiceEnds.{has_failed, IsUsedUp, IsEndOfService}
use Rattle.resource_server.specs.declared.setup.RsSetup.{RsSetup}
use Rattle.rs_edge.specs.GuardedSteps.{GuardsKeeping}
use Rattle.rs_edge.specs.RsSessions.{IsRsAccount}

module _ {K : Type 0} (guards : GuardsKeeping K) (setup : RsSetup) where
  -- A gear served all that its door gave, over a link. What both tell are turns, in order; no connection is out.
  pub record ServedOver (first : K) (link : LinkState) (gear : GearState) (last : K) : Type 0 where
    pub account : IsRsAccount guards setup first gear.log link.asked last
    pub out : gear.out ≡ 0

  -- The same of the one gear of a list. The Bool tells whether its door failed; where it didn't, it gave all its connections.
  pub record ServesOneGear (first : K) (link : LinkState) (gears : List GearState) (failed : Bool) (last : K) : Type 0 where
    pub gear : GearState
    pub one : gears ≡ gear ∷ []
    pub over : ServedOver first link gear last
    pub failed_is : failed ≡ has_failed gear
    pub used_up : failed ≡ false → IsUsedUp gear

  -- Either the link wasn't opened; or it was, and no gear was started; or one was started at the address and served over the link. What was opened was
  -- taken back. What was kept changes by what was served alone.
  pub data IsRsService {Done : Type 0} (listen server : List ℕ) (quota : ℕ) (before after : WorldState) (first : K) : K → Result Done WorldFault → Type 0 where
    not_linked : (fault : WorldFault) → after ≡ record before { faults = after.faults } → HasWorldCause before.faults after.faults fault
        → IsRsService listen server quota before after first first (Err fault)
    not_started : (fault : WorldFault) → after ≡ record (with_link new_link (with_opening (opening.Link server) before)) { faults = after.faults }
        → HasWorldCause before.faults after.faults fault → IsRsService listen server quota before after first first (Err fault)
    served : (result : Result Done WorldFault) (link : LinkState) (gear : GearState) (last : K)
        → after ≡ with_link link (with_gears (gear ∷ []) (with_opening (opening.Gears listen 1 quota) (with_opening (opening.Link server) before)))
        → ServedOver first link gear last → IsEndOfService (gear ∷ []) result → IsRsService listen server quota before after first last result
