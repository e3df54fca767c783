-- What a link counts and tells.
use Rattle.std.specs.Prelude.{◌≡◌, ℕ, ◌≤◌, List, [], ◌∷◌, ◌++◌, Result, Ok, Err, Option, Some, None}
use Rattle.outside.specs.Outside.{Told, IsAtEnd, Rose}
use Rattle.outside.specs.declared.link.LinkFault.{LinkFault}
use Rattle.outside.specs.declared.link.LinkFault.TheVariants.{Failed, OutOfMemory}

-- a request, and its reply where one came
abbrev pub Exchange : Type 0
Exchange = List ℕ × Option (List ℕ)

-- A link: its faults, and its exchanges in order.
pub record LinkState : Type 0 where
  pub faults : ℕ
  pub asked : List Exchange

-- An exchange, by its connection where a reply came: what was written to it, and what was read from it. Else the request that was to be sent.
abbrev pub exchange_of : {Conn : Type 0} → (Conn → Told) → List ℕ → Option Conn → Exchange
exchange_of told request None = (request, None)
exchange_of told request (Some conn) = ((told conn).written, Some (told conn).taken)

-- The request was written to a connection, and the reply is what was then read from it, to its end.
pub record IsReply (request reply : List ℕ) (before after : Told) : Type 0 where
  pub written : after.written ≡ before.written ++ request
  pub taken : after.taken ≡ before.taken ++ reply
  pub at_end : IsAtEnd after

-- a link that nothing was asked through
abbrev pub new_link : LinkState
new_link = record { faults = 0; asked = [] }

abbrev pub with_asked : Exchange → LinkState → LinkState
with_asked exchange state = record state { asked = state.asked ++ exchange ∷ [] }

-- The answer to a request. A failure adds the request with no reply, want of memory adds nothing.
abbrev pub Exchanges : List ℕ → LinkState → LinkState → Result (List ℕ) LinkFault → Type 0
Exchanges request before after (Ok reply) = after ≡ with_asked (request, Some reply) before
Exchanges request before after (Err Failed) =
    (after ≡ record (with_asked (request, None) before) { faults = after.faults }) × Rose before.faults after.faults × (before.faults ≤ after.faults)
Exchanges request before after (Err OutOfMemory) = after ≡ before
