-- The setup of the authorization server: what bytes read as.
use Rattle.std.specs.Prelude.{◌≡◌, ℕ, ◌&&◌, List, [], ◌∷◌, ◌++◌, length, Bool, not, Result, Ok, Err, nat_lt, nat_le, if◌then◌else◌, codes}
use Rattle.std.specs.List.{list_any}
use Rattle.std.specs.Str.{bytes_eq}
use Rattle.base64.specs.declared.decode.DecodeError.{DecodeError}
use Rattle.base64.specs.Engines.{standard}
use Rattle.base64.specs.GeneralPurpose.{decode_of}
use Rattle.serde_json.specs.Data.{Data, Items, no_items, item}
use Rattle.json_objects.specs.declared.body.BodyFault.{BodyFault}
use Rattle.json_objects.specs.Bodies.{body_of}
use Rattle.json_objects.specs.Reading.{◌>>=◌, each}
use Rattle.gnap_model.specs.declared.rights.Right.{Right}
use Rattle.gnap_model.specs.declared.objects.Role.TheVariants.{Client, Server, Front}
use Rattle.gnap_model.specs.declared.objects.Role.{Role}
use Rattle.gnap_model.specs.declared.objects.KeyRow.{KeyRow}
use Rattle.gnap_model.specs.declared.objects.Setup.{Setup}
use Rattle.gnap_objects.specs.declared.fault.ObjectFault.{ObjectFault}
use Rattle.gnap_objects.specs.declared.fault.ObjectFault.TheVariants as faults
use Rattle.gnap_objects.specs.declared.setups.SetupFault.{SetupFault}
use Rattle.gnap_objects.specs.declared.setups.SetupFault.TheVariants.{NotJson, InSetup, InKey, OutOfMemory}
use Rattle.gnap_objects.specs.Forms.{is_base}
use Rattle.gnap_objects.specs.Reading.{required, required_items, text_of, checked, id_of, without_others, rights_under}
use Rattle.gnap_objects.specs.Fits.{SetupFits}

-- the address of a server
unfoldable pub base_of : List ℕ → Data → Result (List ℕ) ObjectFault
base_of name d = required name d >>= text_of name >>= checked is_base name

-- ---- a key

abbrev pub has_id : List ℕ → KeyRow → Bool
has_id id k = bytes_eq k.id id

-- `id`: an id that no key before has
unfoldable pub key_id_of : List KeyRow → Data → Result (List ℕ) ObjectFault
key_id_of before d = required (codes "id") d >>= id_of (codes "id") >>= checked (λ id. not (list_any (has_id id) before)) (codes "id")

abbrev pub role_in : List ℕ → Result Role ObjectFault
role_in s = if bytes_eq s (codes "client") then Ok Client
    else (if bytes_eq s (codes "server") then Ok Server
    else (if bytes_eq s (codes "front") then Ok Front else Err (faults.Wrong (codes "role"))))

unfoldable pub role_of : Data → Result Role ObjectFault
role_of d = required (codes "role") d >>= text_of (codes "role") >>= role_in

abbrev pub decoded : Result (List ℕ) DecodeError → Result (List ℕ) ObjectFault
decoded (Ok secret) = checked (λ s. nat_le 16 (length s) && nat_le (length s) 64) (codes "secret") secret
decoded (Err e) = Err (faults.Wrong (codes "secret"))

-- `secret`: 16 to 64 bytes, in base64 with padding and zero last bits (RFC 4648, section 4)
unfoldable pub secret_of : Data → Result (List ℕ) ObjectFault
secret_of d = required (codes "secret") d >>= text_of (codes "secret") >>= λ text. decoded (decode_of standard text)

-- a client's `auto` and `ask`: arrays of rights
abbrev pub client_rights : Role → List ℕ → Data → Result (List Right) ObjectFault
client_rights Client name d = rights_under name d
client_rights Server name d = Ok []
client_rights Front name d = Ok []

abbrev pub few_names : List (List ℕ) → Result (List (List ℕ)) ObjectFault
few_names ns = if nat_lt 256 (length ns) then Err (faults.TooMany (codes "serves")) else Ok ns

-- at most 256 strings
unfoldable pub names_of : Data → Result (List (List ℕ)) ObjectFault
names_of d = required_items (codes "serves") d >>= each (text_of (codes "serves")) >>= few_names

-- a server's `serves`
abbrev pub server_names : Role → Data → Result (List (List ℕ)) ObjectFault
server_names Server d = names_of d
server_names Client d = Ok []
server_names Front d = Ok []

-- the members of a key, all required
abbrev pub key_members : Role → List (List ℕ)
key_members Client = codes "id" ∷ codes "role" ∷ codes "secret" ∷ codes "auto" ∷ codes "ask" ∷ []
key_members Server = codes "id" ∷ codes "role" ∷ codes "secret" ∷ codes "serves" ∷ []
key_members Front = codes "id" ∷ codes "role" ∷ codes "secret" ∷ []

-- the key that the object is, after those before
unfoldable pub key_row_of : List KeyRow → Data → Result KeyRow ObjectFault
key_row_of before d = do
  id ← key_id_of before d
  role ← role_of d
  secret ← secret_of d
  auto_rights ← client_rights role (codes "auto") d
  ask_rights ← client_rights role (codes "ask") d
  serves ← server_names role d
  without_others (key_members role) d (record { id = id; role = role; secret = secret; auto_rights = auto_rights; ask_rights = ask_rights; serves = serves })

-- ---- the setup

-- what is read of the setup itself, and of the key with this place, counted from 0
abbrev pub in_setup : {A : Type 0} → Result A ObjectFault → Result A SetupFault
in_setup (Ok x) = Ok x
in_setup (Err fault) = Err (InSetup fault)

abbrev pub in_key : {A : Type 0} → ℕ → Result A ObjectFault → Result A SetupFault
in_key place (Ok x) = Ok x
in_key place (Err fault) = Err (InKey place fault)

-- the fault of the setup itself, where an object's fault isn't want of memory
abbrev pub setup_fault : ObjectFault → SetupFault
setup_fault faults.OutOfMemory = OutOfMemory
setup_fault fault = InSetup fault

-- the keys, after those before
abbrev pub keys_from : List KeyRow → Items → Result (List KeyRow) SetupFault
keys_from before no_items = Ok before
keys_from before (item d ds) = in_key (length before) (key_row_of before d) >>= λ k. keys_from (before ++ k ∷ []) ds

abbrev pub few_keys : List KeyRow → Result (List KeyRow) SetupFault
few_keys ks = if nat_lt 4096 (length ks) then Err (InSetup (faults.TooMany (codes "keys"))) else Ok ks

-- `keys`: at most 4,096
unfoldable pub keys_of : Data → Result (List KeyRow) SetupFault
keys_of d = in_setup (required_items (codes "keys") d) >>= keys_from [] >>= few_keys

abbrev pub object_in : Result Data BodyFault → Result Data SetupFault
object_in (Ok d) = Ok d
object_in (Err fault) = Err NotJson

-- the setup that the object is, with exactly these members
abbrev pub setup_in : Data → Result Setup SetupFault
setup_in d = do
  base ← in_setup (base_of (codes "base") d)
  front ← in_setup (base_of (codes "front") d)
  keys ← keys_of d
  in_setup (without_others (codes "base" ∷ codes "front" ∷ codes "keys" ∷ []) d (record { base = base; front = front; keys = keys }))

-- the setup that the bytes are: one JSON object in which each number is whole
unfoldable pub setup_of : List ℕ → Result Setup SetupFault
setup_of text = object_in (body_of text) >>= setup_in

-- a setup that its reader gives
pub record IsSetup (s : Setup) : Type 0 where
  pub text : List ℕ
  pub read_as : setup_of text ≡ Ok s
  pub fits : SetupFits s
