-- The configuration of a client, the setup of a resource server, and pairs of a setup, as a file has them.
use Rattle.std.specs.Prelude.{List, ℕ, Option}
use Rattle.gnap_model.specs.declared.objects.Setup.{Setup}
use Rattle.derivation_requests.specs.Pairs.{Pair, pairs_of}
use Rattle.gnap_client.specs.Configs.{Parts, client_config_of}
use Rattle.resource_server.specs.declared.setup.RsSetup.{RsSetup}
use Rattle.resource_server.specs.RsSetups.{rs_setup_of}
use Rattle.command_inputs.specs.Configs.{config_in}

-- the configuration of a client that a text is
abbrev pub client_config_in : List ℕ → Option Parts
client_config_in text = config_in client_config_of text

-- the setup of a resource server that a text is
abbrev pub rs_setup_in : List ℕ → Option RsSetup
rs_setup_in text = config_in rs_setup_of text

-- the pairs of a setup that a text is
abbrev pub pairs_in : Setup → List ℕ → Option (List Pair)
pairs_in setup text = config_in (pairs_of setup) text
