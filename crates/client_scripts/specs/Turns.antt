-- A script, line by line: what the client carried out over a link, and what was printed.
use Rattle.std.specs.Prelude.{◌≡◌, ◌≢◌, ℕ, Bool, true, false, List, [], ◌∷◌, ◌++◌, flat_map, Option, Some, None, Result, Ok, Err}
use Rattle.outside.specs.Links.{Exchange}
use Rattle.outside.specs.declared.link.LinkFault.{LinkFault}
use Rattle.outside.specs.declared.link.LinkFault.TheVariants as link_faults
use Rattle.histories.specs.Turns.{Turn}
use Rattle.gnap_client.specs.declared.client.Took.{Took}
use Rattle.gnap_client.specs.declared.client.Client.{Client}
use Rattle.gnap_client.specs.declared.client.ClientFault.{ClientFault}
use Rattle.gnap_client.specs.declared.client.ClientFault.TheVariants as faults
use Rattle.gnap_client.specs.Sending.{HasExchanged}
use Rattle.client_scripts.specs.declared.deeds.ScriptStep.{ScriptStep}
use Rattle.client_scripts.specs.declared.line_faults.BadLine.{BadLine}
use Rattle.client_scripts.specs.declared.line_faults.LineFault.{LineFault}
use Rattle.client_scripts.specs.declared.turns.LineSaid.{LineSaid}
use Rattle.client_scripts.specs.Deeds.{Called, said_line, is_fine, bad_line}
use Rattle.client_scripts.specs.Lines.{line_step}

-- What a line did: the client before and after it, the exchanges that were made, and whether the line was ok.
pub record ScriptEntry : Type 0 where
  pub before : Client
  pub after : Client
  pub exchanges : List Exchange
  pub fine : Bool

-- One line's turn. It has one entry.
abbrev pub ScriptTurn : Type 0
ScriptTurn = Turn (List ℕ) ScriptEntry

-- the one exchange of a request, by its answer: with the reply, without one where the link failed, and none where memory ran out
abbrev pub exchanges_of : List ℕ → Result (List ℕ) LinkFault → List Exchange
exchanges_of request (Ok reply) = (request, Some reply) ∷ []
exchanges_of request (Err link_faults.Failed) = (request, None) ∷ []
exchanges_of request (Err link_faults.OutOfMemory) = []

abbrev pub turn_of : List ℕ → ℕ → Client → Client → List Exchange → List ℕ → Bool → Bool → ScriptTurn
turn_of line at before after exchanges bytes fine on = record {
  message = line;
  moment = at;
  entries = record { before = before; after = after; exchanges = exchanges; fine = fine } ∷ [];
  bytes = bytes;
  on = on;
}

-- The turn of the line of this number is one of these. The first line of a script is number 1, and each line counts.
pub data IsScriptTurn (number : ℕ) : ScriptTurn → Type 0 where
  -- the line isn't one of a script
  bad : (line : List ℕ) → (at : ℕ) → (c : Client) → (why : BadLine) → line_step number line ≡ Err (LineFault.BadLine why)
      → IsScriptTurn number (turn_of line at c c [] bad_line false true)
  -- the client had no request to send, and stays as it was
  unasked : (line : List ℕ) → (step : ScriptStep) → line_step number line ≡ Ok step
      → (c : Client) → (fault : ClientFault) → Called step c c (Err fault) → fault ≢ faults.OutOfMemory
      → IsScriptTurn number (turn_of line step.at c c [] (said_line step.deed c.received.state (Err fault)) false true)
  -- its request was exchanged, once, and the reply taken
  sent : (line : List ℕ) → (step : ScriptStep) → line_step number line ≡ Ok step
      → (old between new : Client) → (request : List ℕ) → Called step old between (Ok request)
      → (reply : Result (List ℕ) LinkFault) → (answer : Result Took ClientFault) → HasExchanged reply between new answer → answer ≢ Err faults.OutOfMemory
      → IsScriptTurn number (turn_of line step.at old new (exchanges_of request reply) (said_line step.deed new.received.state answer) (is_fine answer) true)
  -- memory ran out: before a request was made, or once it was
  starved : (line : List ℕ) → (at : ℕ) → (c : Client) → IsScriptTurn number (turn_of line at c c [] [] false false)
  starved_later : (line : List ℕ) → (step : ScriptStep) → line_step number line ≡ Ok step
      → (old between new : Client) → (request : List ℕ) → Called step old between (Ok request)
      → (reply : Result (List ℕ) LinkFault) → (answer : Result Took ClientFault) → HasExchanged reply between new answer
      → IsScriptTurn number (turn_of line step.at old new (exchanges_of request reply) [] false false)

-- ---- one line over a link

-- what was said, and whether the line was ok; nothing where memory ran out
abbrev pub bytes_said : Option LineSaid → List ℕ
bytes_said None = []
bytes_said (Some said) = said.text

abbrev pub fine_said : Option LineSaid → Bool
fine_said None = false
fine_said (Some said) = said.fine

abbrev pub was_said : Option LineSaid → Bool
was_said None = false
was_said (Some said) = true

-- The line of this number had its turn over a link, which had these exchanges before and those after it.
pub record HasScriptTurn (number : ℕ) (line : List ℕ) (old new : Client) (asked asked_now : List Exchange) (result : Option LineSaid) : Type 0 where
  pub at : ℕ
  pub exchanges : List Exchange
  pub turn : IsScriptTurn number (turn_of line at old new exchanges (bytes_said result) (fine_said result) (was_said result))
  pub adds : asked_now ≡ asked ++ exchanges

-- ---- all lines

-- each entry begins with the client that the one before it left
abbrev pub Chained : Client → List ScriptEntry → Client → Type 0
Chained first [] last = first ≡ last
Chained first (entry ∷ entries) last = (entry.before ≡ first) × Chained entry.after entries last

abbrev pub entry_exchanges : ScriptEntry → List Exchange
entry_exchanges entry = entry.exchanges

-- all exchanges that were made
abbrev pub exchanges_in : List ScriptEntry → List Exchange
exchanges_in entries = flat_map entry_exchanges entries

-- each line was ok
abbrev pub AllFine : List ScriptEntry → Type 0
AllFine [] = Unit {0}
AllFine (entry ∷ entries) = (entry.fine ≡ true) × AllFine entries
