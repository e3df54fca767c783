-- The turn of one message at a resource server.
use Rattle.std.specs.Prelude.{◌≢◌, ℕ, Bool, true, false, [], ◌∷◌}
use Rattle.bytes_and_lists.specs.declared.message.Message.{Message}
use Rattle.histories.specs.Turns.{Turn}
use Rattle.http_edge.specs.Replies.{reply_bytes, busy_reply}
use Rattle.resource_server.specs.declared.setup.RsSetup.{RsSetup}
use Rattle.resource_server.specs.declared.guarded.Guarded.TheVariants as guarded
use Rattle.rs_edge.specs.RsReplies.{rs_reply}
use Rattle.rs_edge.specs.GuardedSteps.{GuardsKeeping, GuardedStep}

-- What guarding a message did stands where an authorization server's turn has its entries.
abbrev pub RsTurn : Type 0 → Type 0
RsTurn K = Turn Message (GuardedStep K)

-- A message's turn is one of these. The Bool tells whether the connection closes behind its reply.
pub data IsRsTurn {K : Type 0} (guards : GuardsKeeping K) (setup : RsSetup) (last : Bool) : RsTurn K → Type 0 where
  -- it was guarded, and the reply to the answer was written
  answered : (m : Message) → (moment : ℕ) → (step : GuardedStep K) → guards setup m moment step.before step.exchanges step.answer step.after
      → step.answer ≢ guarded.Memory
      → IsRsTurn guards setup last
      (record { message = m; moment = moment; entries = step ∷ []; bytes = reply_bytes (rs_reply setup m last step.answer); on = true })
  -- memory ran out: while it was guarded, or when its reply was made
  starved : (m : Message) → (moment : ℕ) → (step : GuardedStep K) → guards setup m moment step.before step.exchanges step.answer step.after
      → IsRsTurn guards setup last (record { message = m; moment = moment; entries = step ∷ []; bytes = reply_bytes busy_reply; on = false })
