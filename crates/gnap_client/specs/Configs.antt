-- The configuration of a client: what bytes read as.
use Rattle.std.specs.Prelude.{ℕ, List, [], ◌∷◌, Result, Ok, codes}
use Rattle.json_objects.specs.Bodies.{body_of}
use Rattle.json_objects.specs.Reading.{◌>>=◌}
use Rattle.gnap_objects.specs.declared.setups.SetupFault.{SetupFault}
use Rattle.gnap_objects.specs.Reading.{required, id_of, without_others}
use Rattle.gnap_objects.specs.Setups.{base_of, secret_of, in_setup, object_in}
use Rattle.serde_json.specs.Data.{Data}
use Rattle.gnap_objects.specs.declared.fault.ObjectFault.{ObjectFault}
use Rattle.gnap_client.specs.declared.config.ClientConfig.{ClientConfig}

-- `id`: the id of the client's key
unfoldable pub client_id_of : Data → Result (List ℕ) ObjectFault
client_id_of d = required (codes "id") d >>= id_of (codes "id")

abbrev pub config_members : List (List ℕ)
config_members = codes "server" ∷ codes "resource" ∷ codes "id" ∷ codes "secret" ∷ []

-- the parts of a configuration: the two servers, the id and the secret
abbrev pub Parts : Type 0
Parts = List ℕ × List ℕ × List ℕ × List ℕ

abbrev pub parts_of : ClientConfig → Parts
parts_of c = (c.server, c.resource, c.id, c.secret)

-- the parts of the configuration that an object is, with exactly these members
unfoldable pub config_in : Data → Result Parts SetupFault
config_in d = do
  server ← in_setup (base_of (codes "server") d)
  resource ← in_setup (base_of (codes "resource") d)
  id ← in_setup (client_id_of d)
  secret ← in_setup (secret_of d)
  no_others ← in_setup (without_others config_members d (tt {0}))
  Ok (server, resource, id, secret)

-- The parts of the configuration that the bytes are: one JSON object in which each number is whole.
unfoldable pub client_config_of : List ℕ → Result Parts SetupFault
client_config_of text = object_in (body_of text) >>= config_in
