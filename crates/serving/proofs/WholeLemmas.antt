-- Connections on which nothing failed.
use Rattle.std.proofs.Common.{◌≡◌, ℕ, List, [], ◌∷◌, ◌++◌, ap, arith}
use Rattle.std.specs.Prelude.{Bool}
use Rattle.outside.specs.Outside.{Served}
use Rattle.histories.specs.Turns.{Turn}
use Rattle.serving.specs.Connections.{Wire, AreMessages, Finishes, whole, cut_response, cut_closing, Session}
use Rattle.serving.specs.Wholes.{IsServedWhole}
use Rattle.serving.specs.declared.ends.ConnectionEnd.{ConnectionEnd}

module _ {Message Fault : Type 0} (wire : Wire Message Fault)
    (stays : (bytes : List ℕ) (m : Message) (rest more : List ℕ) → wire.begins bytes m rest → wire.begins (bytes ++ more) m (rest ++ more)) where
  -- messages stay where more bytes follow
  pub messages-more : (bytes : List ℕ) (ms : List Message) (rest more : List ℕ) → AreMessages wire bytes ms rest
      → AreMessages wire (bytes ++ more) ms (rest ++ more)
  messages-more bytes [] rest more is = ap (λ b. b ++ more) is
  messages-more bytes (m ∷ ms) rest more is = (is.0 ++ more, stays bytes m is.0 more is.1, messages-more is.0 ms rest more is.2)

  module _ {E : Type 0} (IsTurn : Bool → Turn Message E → Type 0) (conn : Served) (left : List ℕ) (turns : List (Turn Message E)) (none : conn.faults ≡ 0) where
    finishes_whole : (ended : ConnectionEnd Fault) (s : Session wire IsTurn conn turns ended) → Finishes wire turns conn s.rest ended
        → IsServedWhole wire IsTurn conn left turns
    finishes_whole ended s (whole e closing ends written) = record {
      each = s.each;
      rest = s.rest;
      came = messages-more conn.told.taken _ s.rest left s.came;
      ended = e;
      closing = closing;
      ends = ends;
      written = written;
    }
    finishes_whole ended s (cut_response front last one cut some) = absurd (omega (arith, none, some))
    finishes_whole ended s (cut_closing e closing ends cut some) = absurd (omega (arith, none, some))

    pub unfailed_whole : (ended : ConnectionEnd Fault) → Session wire IsTurn conn turns ended → IsServedWhole wire IsTurn conn left turns
    unfailed_whole ended s = finishes_whole ended s s.finishes
