-- One message's turn, and a connection's, put together.
use Rattle.std.proofs.Common.{◌≡◌, ◌≢◌, ◌∙◌, ℕ, Bool, [], ◌∷◌, refl, sym, ap, subst, arith, true, false}
use Rattle.std.proofs.lemmas.List.{append-nil}
use Rattle.outside.specs.Gears.{GearState, with_moment}
use Rattle.outside.specs.Links.{LinkState}
use Rattle.outside.specs.Outside.{Told, Served}
use Rattle.bytes_and_lists.specs.declared.message.Message.{Message}
use Rattle.http_edge.specs.declared.reply.HttpReply.{HttpReply}
use Rattle.http_edge.specs.Replies.{reply_bytes, busy_reply}
use Rattle.resource_server.specs.declared.setup.RsSetup.{RsSetup}
use Rattle.resource_server.specs.declared.guarded.Guarded.{Guarded}
use Rattle.resource_server.specs.declared.guarded.Guarded.TheVariants as guarded
use Rattle.resource_server.specs.Guarding.{GuardsOver, AddsExchanges}
use Rattle.serving.specs.Backends.{Entered}
use Rattle.serving.specs.MessageTurns.{HasWrittenText, TakesTurn}
use Rattle.serving.specs.declared.ends.AfterTurn.{AfterTurn}
use Rattle.serving.specs.declared.ends.AfterTurn.TheVariants.{MoreMayCome, OutOfMemory}
use Rattle.serving.proofs.MessageTurnLemmas.{follows_on, follows_none, used_none, turn-of}
use Rattle.histories.specs.Turns.{entries_in}
use Rattle.http_edge.specs.declared.fault.EdgeFault.{EdgeFault}
use Rattle.serving.specs.Connections.{ServesTurns}
use Rattle.serving.specs.declared.ends.ConnectionEnd.{ConnectionEnd}
use Rattle.http_serving.specs.EdgeWire.{edge_wire}
use Rattle.rs_edge.specs.declared.guarded_link.GuardedLink.{GuardedLink}
use Rattle.rs_edge.specs.GuardedSteps.{GuardsKeeping, GuardedStep, Chained, exchanges_in}
use Rattle.rs_edge.specs.GuardedLinks.{guarded_link}
use Rattle.rs_edge.specs.RsSessions.{ServesResources}
use Rattle.rs_edge.specs.RsReplies.{rs_reply}
use Rattle.rs_edge.specs.RsTurns.{IsRsTurn, answered, starved}

module _ {L K Kept : Type 0} (link : L → LinkState) (kept : K → Kept) (guards : GuardsKeeping Kept) (setup : RsSetup) (last : Bool) (m : Message) (moment : ℕ)
    (answer : Guarded)
    (before after : GuardedLink L K) (gear gear_now : GearState) (conn conn_now : Told) (faults faults_now : ℕ) (next : AfterTurn)
    (over : GuardsOver (λ exchanges answer. guards setup m moment (kept before.guard.now) exchanges answer (kept after.guard.now)) (link before.link.now)
    (link after.link.now) answer)
    (same_link : after.link.ghost_name ≡ before.link.ghost_name) (same_guard : after.guard.ghost_name ≡ before.guard.ghost_name)
    (used : gear_now ≡ with_moment moment gear) (past : LinkState × Kept) (is_past : (past.0 ≡ link before.link.now) × (past.1 ≡ kept before.guard.now)) where
  abbrev step : GuardedStep Kept
  step = record { before = kept before.guard.now; exchanges = over.exchanges; answer = answer; after = kept after.guard.now }

  entered : Entered (guarded_link link kept setup) before past (step ∷ []) moment gear gear_now after (link after.link.now, kept after.guard.now)
  entered = record {
    leads = record {
      link_is = refl;
      kept_is = refl;
      over = subst (λ es. AddsExchanges es past.0 (link after.link.now)) (sym (append-nil over.exchanges))
          (subst (λ p. AddsExchanges over.exchanges p (link after.link.now)) (sym is_past.0) over.over);
      chained = (sym is_past.1, refl);
      same_link = same_link;
      same_guard = same_guard;
    };
    used = used_none gear gear_now moment used;
  }

  pub answered_turn : (reply : HttpReply) → reply ≡ rs_reply setup m last answer → answer ≢ guarded.Memory
      → HasWrittenText (reply_bytes reply) conn conn_now faults faults_now next → next ≢ OutOfMemory
      → TakesTurn (guarded_link link kept setup) (IsRsTurn guards setup) last m before past after gear gear_now conn conn_now faults faults_now next
  answered_turn reply is fed written on = turn-of (guarded_link link kept setup) (IsRsTurn guards setup) last m before past after
      (link after.link.now, kept after.guard.now) moment
      (step ∷ []) gear gear_now conn conn_now faults faults_now next (reply_bytes (rs_reply setup m last answer)) true entered (omega arith)
      (subst (λ (r : HttpReply). HasWrittenText (reply_bytes r) conn conn_now faults faults_now next) is written)
      (follows_on next on) (answered m moment step over.guarded fed)

  pub starved_turn : HasWrittenText (reply_bytes busy_reply) conn conn_now faults faults_now next → next ≢ MoreMayCome
      → TakesTurn (guarded_link link kept setup) (IsRsTurn guards setup) last m before past after gear gear_now conn conn_now faults faults_now next
  starved_turn written off = turn-of (guarded_link link kept setup) (IsRsTurn guards setup) last m before past after
      (link after.link.now, kept after.guard.now) moment
      (step ∷ []) gear gear_now conn conn_now faults faults_now next (reply_bytes busy_reply) false entered (omega arith) written
      (follows_none next off) (starved m moment step over.guarded)

-- what was served with a link and a guard, which are given back
pub over_link : {L K Kept : Type 0} (link : L → LinkState) (kept : K → Kept) (guards : GuardsKeeping Kept) (setup : RsSetup) (before after : GuardedLink L K)
    (l : L) (k : K)
    (gear gear_now : GearState) (conn : Served) (ended : ConnectionEnd EdgeFault) → l ≡ after.link.now → k ≡ after.guard.now
    → ServesTurns (guarded_link link kept setup) edge_wire (IsRsTurn guards setup) before
    (link before.link.now, kept before.guard.now) after gear gear_now conn ended
    → ServesResources guards setup (link before.link.now) (link l) (kept before.guard.now) (kept k) gear gear_now conn ended
over_link link kept guards setup before after l k gear gear_now conn ended link_is guard_is serves = record {
  turns = serves.turns;
  session = serves.session;
  over = subst (AddsExchanges (exchanges_in (entries_in serves.turns)) (link before.link.now)) (serves.leads.link_is ∙ ap link (sym link_is)) serves.leads.over;
  chained = subst (Chained (kept before.guard.now) (entries_in serves.turns)) (serves.leads.kept_is ∙ ap kept (sym guard_is)) serves.leads.chained;
  used = serves.used;
}
