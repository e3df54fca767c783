-- Connections on which nothing failed.
use Rattle.std.specs.Prelude.{◌≡◌, ℕ, Bool, List, ◌++◌}
use Rattle.outside.specs.Outside.{Served}
use Rattle.histories.specs.Turns.{Turn, messages_in, bytes_in}
use Rattle.serving.specs.Connections.{Wire, AreMessages, AreTurns, Ends}
use Rattle.serving.specs.declared.ends.ConnectionEnd.{ConnectionEnd}

-- What was done with a connection, and with which of its input was left: the messages are those that the whole input begins with, and everything that
-- was to be said was written.
pub record IsServedWhole {Message Fault E : Type 0} (wire : Wire Message Fault) (IsTurn : Bool → Turn Message E → Type 0) (conn : Served) (left : List ℕ)
    (turns : List (Turn Message E)) : Type 0 where
  pub each : AreTurns wire IsTurn 0 turns
  pub rest : List ℕ
  pub came : AreMessages wire (conn.told.taken ++ left) (messages_in turns) (rest ++ left)
  pub ended : ConnectionEnd Fault
  pub closing : List ℕ
  pub ends : Ends wire turns conn rest ended closing
  pub written : conn.told.written ≡ bytes_in turns ++ closing
