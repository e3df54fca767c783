-- What serving a setup with pairs at an address leaves behind.
use Rattle.std.specs.Prelude.{◌≡◌, ℕ, List, All, length, Result, Err}
use Rattle.outside.specs.Gears.{GearState}
use Rattle.outside.specs.Worlds.{WorldState, HasWorldCause, with_opening, with_gears}
use Rattle.outside.specs.declared.world.Opening.TheVariants as opening
use Rattle.outside.specs.declared.world.WorldFault.{WorldFault}
use Rattle.histories.specs.Whole.{OneHistory, own_of}
use Rattle.serving.specs.Workers.{accounts_of}
use Rattle.serving.specs.ServiceEnds.{IsEndOfService}
use Rattle.gnap_model.specs.declared.objects.Setup.{Setup}
use Rattle.grant_machine.specs.Gnap.{gnap}
use Rattle.grant_machine.specs.Laws.{WhatHolds}
use Rattle.derivation_requests.specs.Pairs.{Pair}
use Rattle.derived_tokens.specs.DerivedSessions.{IsDerivingSession, AreDerived}
use Rattle.derived_tokens.specs.Terms.{TermsHold}

-- There is one legal history of the setup's machine, which accounts, by the entries of each gear's number, for what that gear tells: for the bytes of
-- each connection, the moments and the words. What holds of all legal histories holds of it. Of the entries of each number a grant of a pair's client begins
-- only
-- behind a live parent, and up to its end. No connection is out.
pub record AreServed (pairs : List Pair) (setup : Setup) (gears : List GearState) : Type 0 where
  pub one : OneHistory gnap setup (accounts_of (IsDerivingSession pairs setup) gears)
  pub holds : WhatHolds setup one.history
  pub terms : TermsHold one.history
  pub derived : (number : ℕ) → AreDerived pairs (own_of number one.history)
  pub out : All (λ gear. gear.out ≡ 0) gears

-- Either no gear was started, or as many as asked for were started at the address, served, and taken back.
pub data IsDerivingService {Done : Type 0} (pairs : List Pair) (setup : Setup) (address : List ℕ) (n quota : ℕ) (before after : WorldState) : Result Done
    WorldFault → Type 0 where
  not_started : (fault : WorldFault) → after ≡ record before { faults = after.faults } → HasWorldCause before.faults after.faults fault
      → IsDerivingService pairs setup address n quota before after (Err fault)
  served : (result : Result Done WorldFault) (gears : List GearState) → after ≡ with_gears gears (with_opening (opening.Gears address n quota) before)
      → length gears ≡ n → AreServed pairs setup gears → IsEndOfService gears result → IsDerivingService pairs setup address n quota before after result
