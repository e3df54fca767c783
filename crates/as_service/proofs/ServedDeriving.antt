-- What serving at an address leaves behind where tokens are derived.
use Rattle.std.proofs.Common.{◌≡◌, ℕ, suc, ◌*◌, ◌^◌, ◌≤◌, List, [], ◌∷◌, length, length-append, sym, subst, arith}
use Rattle.std.specs.Prelude.{Bool, Result}
use Rattle.outside.specs.Outside.{Served}
use Rattle.outside.specs.Gears.{GearState}
use Rattle.outside.specs.Worlds.{WorldState}
use Rattle.outside.specs.declared.world.WorldFault.{WorldFault}
use Rattle.bytes_and_lists.specs.declared.message.Message.{Message}
use Rattle.histories.specs.History.{Legal}
use Rattle.histories.specs.Turns.{Turn, IsTurn, entries_in}
use Rattle.histories.specs.Whole.{OneHistory}
use Rattle.serving.specs.Connections.{AreTurns, is_closing}
use Rattle.serving.specs.Workers.{accounts_of}
use Rattle.serving.specs.Services as serving
use Rattle.serving.proofs.LogLemmas.{entries_few}
use Rattle.serving.proofs.EntryCounts.{connections_of, history_few}
use Rattle.gnap_model.specs.declared.objects.Setup.{Setup}
use Rattle.grant_machine.specs.Gnap.{GnapEntry, gnap}
use Rattle.grant_machine.specs.Laws.{WhatHolds}
use Rattle.http_serving.specs.EdgeWire.{edge_wire}
use Rattle.derivation_requests.specs.Pairs.{Pair}
use Rattle.derived_tokens.specs.DerivingSetups.{DerivingSetup}
use Rattle.derived_tokens.specs.Terms.{TermsHold, EndsWithItsTerm}
use Rattle.derived_tokens.specs.DerivedTurns.{deriving_face, IsDerivingTurn}
use Rattle.derived_tokens.specs.DerivedTurns as derived
use Rattle.derived_tokens.specs.DerivedSessions.{IsDerivingSession}
use Rattle.as_service.specs.DerivedServices.{IsDerivingService, not_started, served}
use Rattle.derived_tokens.proofs.DerivedEntries.{history_derived}
use Rattle.as_service.proofs.FewEntries.{connections_few}

-- ---- how many entries there are

turn_few : (pairs : List Pair) (setup : Setup) (last : Bool) (t : Turn Message GnapEntry) → IsDerivingTurn pairs setup last t → length t.entries ≤ 2
turn_few pairs setup last t (derived.plain _ is) = let one = entries_few gnap (deriving_face pairs) setup last t is in omega (arith, one)
turn_few pairs setup last t (derived.refused m begin e asks gone) = omega arith
turn_few pairs setup last t (derived.begun m begin e f end on is) = omega arith
turn_few pairs setup last t (derived.lapsed m begin e parent server step is) = omega arith
turn_few pairs setup last t (derived.unsaid m begin e asks gone) = omega arith
turn_few pairs setup last t (derived.begin_lapsed m begin e f end on is) = omega arith
turn_few pairs setup last t (derived.begin_unsaid m begin e f end on is) = omega arith

turns_few : (pairs : List Pair) (setup : Setup) (place : ℕ) (turns : List (Turn Message GnapEntry))
    → AreTurns edge_wire (IsDerivingTurn pairs setup) place turns
    → length (entries_in turns) ≤ 2 * length turns
turns_few pairs setup place [] each = omega arith
turns_few pairs setup place (t ∷ ts) each =
    let first = turn_few pairs setup (is_closing edge_wire place t.message) t each.0 in
    let rest = turns_few pairs setup (suc place) ts each.1 in
    let all = length-append t.entries (entries_in ts) in
    omega (arith, first, rest, all)

session_few : (pairs : List Pair) (setup : Setup) (conn : Served) (turns : List (Turn Message GnapEntry)) → IsDerivingSession pairs setup conn turns
    → length (entries_in turns) ≤ 2000
session_few pairs setup conn turns is =
    let most = is.1.few in
    let two_each = turns_few pairs setup 0 turns is.1.each in
    omega (arith, most, two_each)

-- the history that at most 64 gears account for is short enough for what is known of legal histories
few_enough : (pairs : List Pair) (setup : Setup) (gears : List GearState) (one : OneHistory gnap setup (accounts_of (IsDerivingSession pairs setup) gears))
    → length gears ≤ 64
    → connections_of gears ≤ 4294967295 * length gears → length one.history ≤ 2 ^ 58
few_enough pairs setup gears one few connections =
    let entries = history_few (IsDerivingSession pairs setup) (session_few pairs setup) gnap setup gears one in
    omega (arith, few, connections, entries)

-- ---- the service

module _ {Done : Type 0} (pairs : List Pair) (setup : Setup) (address : List ℕ) (n quota : ℕ) (before after : WorldState) (few : n ≤ 64)
    (most : quota ≤ 4294967295)
    (known : (rules : Setup) (h : List GnapEntry) → Legal gnap rules h → length h ≤ 2 ^ 58 → WhatHolds rules h) (ends : EndsWithItsTerm) where
  derives : (result : Result Done WorldFault) → serving.IsService gnap setup (IsDerivingSession pairs setup) address n quota before after result
      → IsDerivingService pairs setup address n quota before after result
  derives _ (serving.not_started fault same cause) = not_started fault same cause
  derives result (serving.served _ gears back many are ended) =
      let short = few_enough pairs setup gears are.one (subst (λ k. k ≤ 64) (sym many) few) (connections_few quota gears most are.few) in
      served result gears back many (record {
        one = are.one;
        holds = known setup are.one.history are.one.legal short;
        terms = ends setup are.one.history are.one.legal short;
        derived = history_derived pairs setup gears are.one;
        out = are.out;
      }) ended

-- a service of a server's setup and pairs is one of those that it was made of
pub deriving_service : {Done : Type 0} (pairs : List Pair) (setup edge : Setup) (server : DerivingSetup) (address : List ℕ) (n quota : ℕ)
    (before after : WorldState) (result : Result Done WorldFault)
    → server ≡ record { setup = edge; pairs = pairs } → edge ≡ setup → n ≤ 64 → quota ≤ 4294967295
    → ((rules : Setup) (h : List GnapEntry) → Legal gnap rules h → length h ≤ 2 ^ 58 → WhatHolds rules h) → EndsWithItsTerm
    → serving.IsService gnap server.setup (IsDerivingSession server.pairs server.setup) address n quota before after result
    → IsDerivingService pairs setup address n quota before after result
deriving_service pairs setup edge server address n quota before after result made is few most known ends service =
    derives pairs setup address n quota before after few most known ends result
    (subst (λ (s : Setup). serving.IsService gnap s (IsDerivingSession pairs s) address n quota before after result) is
    (subst (λ (d : DerivingSetup). serving.IsService gnap d.setup (IsDerivingSession d.pairs d.setup) address n quota before after result) made service))
