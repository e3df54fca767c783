-- The history that gears account for is short enough for what is known of legal histories.
use Rattle.std.proofs.Common.{◌≡◌, ℕ, suc, ◌*◌, ◌^◌, ◌≤◌, List, [], ◌∷◌, length, sym, subst, arith}
use Rattle.std.specs.Prelude.{All, Result}
use Rattle.outside.specs.Outside.{Served}
use Rattle.outside.specs.Gears.{GearState}
use Rattle.outside.specs.Worlds.{WorldState}
use Rattle.outside.specs.declared.world.WorldFault.{WorldFault}
use Rattle.bytes_and_lists.specs.declared.message.Message.{Message}
use Rattle.histories.specs.History.{Legal}
use Rattle.histories.specs.Turns.{Turn, entries_in}
use Rattle.histories.specs.Whole.{OneHistory}
use Rattle.serving.specs.Workers.{accounts_of}
use Rattle.serving.specs.Services as serving
use Rattle.serving.proofs.EntryCounts.{connections_of, history_few, session_few}
use Rattle.gnap_model.specs.declared.objects.Setup.{Setup}
use Rattle.grant_machine.specs.Gnap.{GnapEntry, gnap}
use Rattle.grant_machine.specs.Laws.{WhatHolds}
use Rattle.as_edge.specs.EdgeFace.{edge_face}
use Rattle.as_edge.specs.EdgeSessions.{IsEdgeSession}
use Rattle.http_serving.specs.EdgeWire.{edge_wire}
use Rattle.as_service.specs.Services.{IsService, not_started, served}

-- gears that each serve at most a quota of connections
pub connections_few : (quota : ℕ) (gears : List GearState) → quota ≤ 4294967295 → All (λ gear. length gear.log.served ≤ quota) gears
    → connections_of gears ≤ 4294967295 * length gears
connections_few quota [] most few = omega arith
connections_few quota (gear ∷ gears) most few =
    let first = few 0 gear (omega arith) in
    let rest = connections_few quota gears most (λ k d lt. few (suc k) d (omega (arith, lt))) in
    omega (arith, first, rest, most)

connection_few : (setup : Setup) (conn : Served) (turns : List (Turn Message GnapEntry)) → IsEdgeSession setup conn turns → length (entries_in turns) ≤ 2000
connection_few setup conn turns is = let most = session_few edge_wire gnap edge_face setup conn turns is.0 is.1 in omega (arith, most)

-- what is known of each legal history of at most 2^58 entries holds of the one that at most 64 gears account for
history_holds : (setup : Setup) (gears : List GearState) (one : OneHistory gnap setup (accounts_of (IsEdgeSession setup) gears)) → length gears ≤ 64
    → connections_of gears ≤ 4294967295 * length gears
    → ((rules : Setup) (h : List GnapEntry) → Legal gnap rules h → length h ≤ 2 ^ 58 → WhatHolds rules h) → WhatHolds setup one.history
history_holds setup gears one few connections known =
    let entries = history_few (IsEdgeSession setup) (connection_few setup) gnap setup gears one in
    known setup one.history one.legal (omega (arith, few, connections, entries))

module _ {Done : Type 0} (setup : Setup) (address : List ℕ) (n quota : ℕ) (before after : WorldState) (few : n ≤ 64) (most : quota ≤ 4294967295)
    (known : (rules : Setup) (h : List GnapEntry) → Legal gnap rules h → length h ≤ 2 ^ 58 → WhatHolds rules h) where
  holds : (result : Result Done WorldFault) → serving.IsService gnap setup (IsEdgeSession setup) address n quota before after result
      → IsService setup address n quota before after result
  holds _ (serving.not_started fault same cause) = not_started fault same cause
  holds result (serving.served _ gears back many are ended) = served result gears back many (record {
    one = are.one;
    holds = history_holds setup gears are.one (subst (λ k. k ≤ 64) (sym many) few) (connections_few quota gears most are.few) known;
    out = are.out;
  }) ended

-- a service of the setup that a server has is one of the setup that it was made of
pub service_holds : {Done : Type 0} (setup own : Setup) (address : List ℕ) (n quota : ℕ) (before after : WorldState) (result : Result Done WorldFault)
    → own ≡ setup → n ≤ 64 → quota ≤ 4294967295
    → ((rules : Setup) (h : List GnapEntry) → Legal gnap rules h → length h ≤ 2 ^ 58 → WhatHolds rules h)
    → serving.IsService gnap own (IsEdgeSession own) address n quota before after result → IsService setup address n quota before after result
service_holds setup own address n quota before after result is few most known service = holds setup address n quota before after few most known result
    (subst (λ (s : Setup). serving.IsService gnap s (IsEdgeSession s) address n quota before after result) is service)
