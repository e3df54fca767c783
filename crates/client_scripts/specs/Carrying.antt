-- What a client carries out over a link.
use Rattle.std.specs.Prelude.{◌≡◌, ℕ, List, Result, Ok, Err}
use Rattle.outside.specs.Links.{LinkState}
use Rattle.gnap_client.specs.declared.client.Took.{Took}
use Rattle.gnap_client.specs.declared.client.Client.{Client}
use Rattle.gnap_client.specs.declared.client.ClientFault.{ClientFault}
use Rattle.gnap_client.specs.Sending.{Sends}
use Rattle.client_scripts.specs.declared.deeds.ScriptStep.{ScriptStep}
use Rattle.client_scripts.specs.Deeds.{Called}

pub data CarriesStep (step : ScriptStep) (before after : LinkState) (old new : Client) : Result Took ClientFault → Type 0 where
  -- the client had no request to send, and nothing was exchanged
  unasked : (fault : ClientFault) → Called step old new (Err fault) → after ≡ before → CarriesStep step before after old new (Err fault)
  -- its request was sent
  sent : (between : Client) → (request : List ℕ) → Called step old between (Ok request)
      → (answer : Result Took ClientFault) → Sends request before after between new answer → CarriesStep step before after old new answer
