-- The pairs that bytes are: each ties a client key of a setup to a resource server of it.
use Rattle.std.specs.Prelude.{◌≡◌, ℕ, ◌==◌, List, [], ◌∷◌, ◌++◌, length, Bool, false, is_none, Option, Some, None, Result, Ok, Err, nat_lt, if◌then◌else◌, codes}
use Rattle.std.specs.List.{AllByRecursion}
use Rattle.std.specs.Str.{IsUtf8}
use Rattle.serde_json.specs.Data.{Data, Items, no_items, item}
use Rattle.structured_fields.specs.Named.{value_at}
use Rattle.json_objects.specs.Bodies.{body_of}
use Rattle.json_objects.specs.Reading.{◌>>=◌}
use Rattle.gnap_model.specs.Common.{Text}
use Rattle.gnap_model.specs.Keys.{key_of}
use Rattle.gnap_model.specs.declared.objects.KeyRow.{KeyRow}
use Rattle.gnap_model.specs.declared.objects.Role.{Role}
use Rattle.gnap_model.specs.declared.objects.Role.TheVariants as role
use Rattle.gnap_model.specs.declared.objects.Setup.{Setup}
use Rattle.gnap_objects.specs.declared.fault.ObjectFault.{ObjectFault}
use Rattle.gnap_objects.specs.declared.fault.ObjectFault.TheVariants as faults
use Rattle.gnap_objects.specs.declared.setups.SetupFault.{SetupFault}
use Rattle.gnap_objects.specs.CallReading.{is_client, is_server, is_front}
use Rattle.gnap_objects.specs.Reading.{required_text, required_items, checked, without_others}
use Rattle.gnap_objects.specs.Setups.{object_in, in_setup}

-- a client's id with a server's
abbrev pub Pair : Type 0
Pair = Text × Text

-- the key has this role
abbrev pub has_role : Role → Option KeyRow → Bool
has_role wanted None = false
has_role role.Client (Some key) = is_client key.role
has_role role.Server (Some key) = is_server key.role
has_role role.Front (Some key) = is_front key.role

-- the id of a key of the setup that has this role
unfoldable pub key_id_of : Setup → Role → List ℕ → Data → Result Text ObjectFault
key_id_of setup wanted name d = required_text name d >>= checked (λ id. has_role wanted (key_of setup id)) name

-- `client`, of which no pair before is, and `server`
unfoldable pub pair_of : Setup → List Pair → Data → Result Pair ObjectFault
pair_of setup before d = do
  client ← key_id_of setup role.Client (codes "client") d
  new ← checked (λ client. is_none (value_at before client)) (codes "client") client
  server ← key_id_of setup role.Server (codes "server") d
  without_others (codes "client" ∷ codes "server" ∷ []) d (client, server)

-- the pairs, after those before
abbrev pub pairs_from : Setup → List Pair → Items → Result (List Pair) ObjectFault
pairs_from setup before no_items = Ok before
pairs_from setup before (item d ds) = pair_of setup before d >>= λ pair. pairs_from setup (before ++ pair ∷ []) ds

-- 1 to 256 pairs
abbrev pub counted_pairs : List Pair → Result (List Pair) ObjectFault
counted_pairs pairs = if length pairs == 0 then Err (faults.Wrong (codes "pairs"))
    else (if nat_lt 256 (length pairs) then Err (faults.TooMany (codes "pairs")) else Ok pairs)

-- the pairs that the object has, with no other member
unfoldable pub pairs_in : Setup → Data → Result (List Pair) ObjectFault
pairs_in setup d = do
  items ← required_items (codes "pairs") d
  pairs ← pairs_from setup [] items
  counted ← counted_pairs pairs
  without_others (codes "pairs" ∷ []) d counted

-- the pairs that the bytes are: one JSON object in which each number is whole, with exactly this member
unfoldable pub pairs_of : Setup → List ℕ → Result (List Pair) SetupFault
pairs_of setup text = object_in (body_of text) >>= λ d. in_setup (pairs_in setup d)

-- the ids of a pair are UTF-8
abbrev pub PairFits : Pair → Type 0
PairFits pair = IsUtf8 pair.0 × IsUtf8 pair.1

-- pairs that their reader gives with a setup
pub record ArePairs (setup : Setup) (pairs : List Pair) : Type 0 where
  pub text : List ℕ
  pub read_as : pairs_of setup text ≡ Ok pairs
  pub fits : AllByRecursion PairFits pairs
