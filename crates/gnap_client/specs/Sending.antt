-- A request that is sent over a link, and its reply taken.
use Rattle.std.specs.Prelude.{◌≡◌, ℕ, List, Result, Ok, Err}
use Rattle.outside.specs.Links.{LinkState, Exchanges}
use Rattle.outside.specs.declared.link.LinkFault.{LinkFault}
use Rattle.outside.specs.declared.link.LinkFault.TheVariants as link_faults
use Rattle.gnap_client.specs.declared.client.Took.{Took}
use Rattle.gnap_client.specs.declared.client.ClientFault.{ClientFault}
use Rattle.gnap_client.specs.declared.client.ClientFault.TheVariants as faults
use Rattle.gnap_client.specs.declared.client.Client.{Client}
use Rattle.gnap_client.specs.Taking.{HasTaken}

-- what a client made of the answer to an exchange
abbrev pub HasExchanged : Result (List ℕ) LinkFault → Client → Client → Result Took ClientFault → Type 0
HasExchanged (Ok reply) old new result = HasTaken old reply new result
HasExchanged (Err link_faults.Failed) old new result = (result ≡ Err faults.LinkFault) × (new ≡ old)
HasExchanged (Err link_faults.OutOfMemory) old new result = (result ≡ Err faults.OutOfMemory) × (new ≡ old)

-- The request was exchanged once over the link, and the reply taken.
pub record Sends (request : List ℕ) (before after : LinkState) (old new : Client) (result : Result Took ClientFault) : Type 0 where
  pub answer : Result (List ℕ) LinkFault
  pub exchanges : Exchanges request before after answer
  pub takes : HasExchanged answer old new result
