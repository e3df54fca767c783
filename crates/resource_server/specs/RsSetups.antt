-- The setup of a resource server: what bytes read as.
use Rattle.std.specs.Prelude.{◌≡◌, ℕ, ◌+◌, List, [], ◌∷◌, ◌++◌, length, not, is_none, Result, Ok, Err, nat_lt, if◌then◌else◌, codes}
use Rattle.std.specs.List.{list_any}
use Rattle.serde_json.specs.Data.{Data, array, Items, no_items, item}
use Rattle.json_objects.specs.Bodies.{body_of}
use Rattle.json_objects.specs.Reading.{◌>>=◌}
use Rattle.structured_fields.specs.Named.{value_at}
use Rattle.gnap_model.specs.declared.rights.Right.{Right}
use Rattle.access_rights.specs.Reading.{rights_of}
use Rattle.gnap_objects.specs.declared.fault.ObjectFault.{ObjectFault}
use Rattle.gnap_objects.specs.declared.fault.ObjectFault.TheVariants as faults
use Rattle.gnap_objects.specs.declared.setups.SetupFault.{SetupFault}
use Rattle.gnap_objects.specs.declared.setups.SetupFault.TheVariants.{InSetup}
use Rattle.gnap_objects.specs.Reading.{required, required_text, required_items, checked, id_of, without_others, under}
use Rattle.gnap_objects.specs.Setups.{base_of, secret_of, object_in, in_setup, in_key}
use Rattle.signed_requests.specs.Forms.{is_method, begins_with_slash}
use Rattle.resource_server.specs.declared.setup.Route.{Route}
use Rattle.resource_server.specs.declared.setup.RsSetup.{RsSetup}
use Rattle.resource_server.specs.Routing.{is_route}
use Rattle.resource_server.specs.Fits.{RsSetupFits}

-- `id`: an id
unfoldable pub named_id_of : Data → Result (List ℕ) ObjectFault
named_id_of d = required (codes "id") d >>= id_of (codes "id")

-- ---- keys of clients

-- a key: its id, which no key before has, and its secret
unfoldable pub client_key_of : List (List ℕ × List ℕ) → Data → Result (List ℕ × List ℕ) ObjectFault
client_key_of ring d = do
  id ← named_id_of d
  new ← checked (λ id. is_none (value_at ring id)) (codes "id") id
  secret ← secret_of d
  without_others (codes "id" ∷ codes "secret" ∷ []) d (id, secret)

-- the keys before, and this one
abbrev pub with_key : List (List ℕ × List ℕ) → Data → Result (List (List ℕ × List ℕ)) ObjectFault
with_key ring d = client_key_of ring d >>= λ key. Ok (ring ++ key ∷ [])

-- the keys, after those before
abbrev pub ring_from : List (List ℕ × List ℕ) → Items → Result (List (List ℕ × List ℕ)) SetupFault
ring_from ring no_items = Ok ring
ring_from ring (item d ds) = in_key (length ring) (with_key ring d) >>= λ more. ring_from more ds

abbrev pub few_keys : List (List ℕ × List ℕ) → Result (List (List ℕ × List ℕ)) SetupFault
few_keys ring = if nat_lt 4096 (length ring) then Err (InSetup (faults.TooMany (codes "keys"))) else Ok ring

-- `keys`: at most 4,096
unfoldable pub ring_of : Data → Result (List (List ℕ × List ℕ)) SetupFault
ring_of d = in_setup (required_items (codes "keys") d) >>= ring_from [] >>= few_keys

-- ---- routes

-- 1 to 15 upper-case letters
unfoldable pub method_of : Data → Result (List ℕ) ObjectFault
method_of d = required_text (codes "method") d >>= checked is_method (codes "method")

-- begins with `/`, and no route before has it with this method
unfoldable pub route_path_of : List Route → List ℕ → Data → Result (List ℕ) ObjectFault
route_path_of before method d = required_text (codes "path") d >>= checked begins_with_slash (codes "path")
    >>= checked (λ path. not (list_any (is_route method path) before)) (codes "path")

abbrev pub first_of : List Right → Result Right ObjectFault
first_of [] = Err (faults.Wrong (codes "right"))
first_of (r ∷ rs) = Ok r

-- one right: what the array with it alone reads as
unfoldable pub one_right_of : Data → Result Right ObjectFault
one_right_of d = required (codes "right") d >>= λ m. under (codes "right") (rights_of (array (item m no_items))) >>= first_of

unfoldable pub route_from : List Route → Data → Result Route ObjectFault
route_from before d = do
  method ← method_of d
  path ← route_path_of before method d
  right ← one_right_of d
  text ← required_text (codes "text") d
  without_others (codes "method" ∷ codes "path" ∷ codes "right" ∷ codes "text" ∷ []) d
      (record { method = method; path = path; right = right; text = text })

-- the routes, after those before
abbrev pub routes_from : List Route → Items → Result (List Route) ObjectFault
routes_from before no_items = Ok before
routes_from before (item d ds) = route_from before d >>= λ r. routes_from (before ++ r ∷ []) ds

abbrev pub count_of : Items → ℕ
count_of no_items = 0
count_of (item d ds) = count_of ds + 1

-- 1 to 1,024 routes
abbrev pub counted_items : Items → Result Items ObjectFault
counted_items no_items = Err (faults.Wrong (codes "routes"))
counted_items (item d ds) = if nat_lt 1024 (count_of (item d ds)) then Err (faults.TooMany (codes "routes")) else Ok (item d ds)

unfoldable pub routes_of : Data → Result (List Route) ObjectFault
routes_of d = required_items (codes "routes") d >>= counted_items >>= routes_from []

-- ---- the setup

abbrev pub rs_setup_members : List (List ℕ)
rs_setup_members = codes "base" ∷ codes "server" ∷ codes "id" ∷ codes "secret" ∷ codes "keys" ∷ codes "routes" ∷ []

unfoldable pub addresses_of : Data → Result (List ℕ × List ℕ) ObjectFault
addresses_of d = do
  base ← base_of (codes "base") d
  server ← base_of (codes "server") d
  Ok (base, server)

unfoldable pub own_key_of : Data → Result (List ℕ × List ℕ) ObjectFault
own_key_of d = do
  id ← named_id_of d
  secret ← secret_of d
  Ok (id, secret)

unfoldable pub ring_and_routes_of : Data → Result (List (List ℕ × List ℕ) × List Route) SetupFault
ring_and_routes_of d = do
  ring ← ring_of d
  routes ← in_setup (routes_of d)
  Ok (ring, routes)

unfoldable pub setup_in : Data → Result RsSetup SetupFault
setup_in d = do
  addresses ← in_setup (addresses_of d)
  key ← in_setup (own_key_of d)
  served ← ring_and_routes_of d
  in_setup (without_others rs_setup_members d
      (record { base = addresses.0; server = addresses.1; id = key.0; secret = key.1; ring = served.0; routes = served.1 }))

-- the setup that the bytes are: one JSON object in which each number is whole, with exactly these members
unfoldable pub rs_setup_of : List ℕ → Result RsSetup SetupFault
rs_setup_of text = object_in (body_of text) >>= setup_in
