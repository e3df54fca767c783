-- A script that was carried out by a new client of a configuration.
use Rattle.std.proofs.Common.{◌≡◌, ℕ, List, [], inl, inr}
use Rattle.std.specs.Prelude.{Option}
use Rattle.outside.specs.Outside.{Told}
use Rattle.outside.specs.Links.{LinkState}
use Rattle.outside.specs.Worlds.{WorldState}
use Rattle.gnap_client.specs.declared.client.Client.{Client}
use Rattle.gnap_client.specs.Configs.{Parts}
use Rattle.command_inputs.specs.declared.ended.Ended.{Ended}
use Rattle.script_runs.specs.Scripts.{IsNewClient, RunsScript, RunsClient}
use Rattle.world_uses.specs.Uses.{Over, Unopened, Linked}

module _ (parts : Parts) (client : Client) (new : IsNewClient parts client) (text : Option (List ℕ)) (after : WorldState) (out out_now : Told) (ended : Ended)
  where
    over_client : (link : LinkState) (opened : WorldState)
        → Over text opened after (Unopened out out_now ended × (link.asked ≡ [])) (λ taken rest. RunsScript client taken rest link.asked out out_now ended)
        → Over text opened after (Unopened out out_now ended × (link.asked ≡ [])) (λ taken rest. RunsClient parts taken rest link.asked out out_now ended)
    over_client link opened (inl missing) = inl missing
    over_client link opened (inr is) = inr (is.0, is.1, is.2, λ rest known. (client, new, is.3 rest known))

    pub client_carried : (before : WorldState)
        → Linked before after (Unopened out out_now ended) (λ link opened.
        Over text opened after (Unopened out out_now ended × (link.asked ≡ [])) (λ taken rest. RunsScript client taken rest link.asked out out_now ended))
        → Linked before after (Unopened out out_now ended) (λ link opened.
        Over text opened after (Unopened out out_now ended × (link.asked ≡ [])) (λ taken rest. RunsClient parts taken rest link.asked out out_now ended))
    client_carried before (inl missing) = inl missing
    client_carried before (inr is) = inr (is.0, is.1, is.2, is.3, over_client is.0 is.1 is.4)
