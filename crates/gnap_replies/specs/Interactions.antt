-- The replies to the consent front as JSON. Its three calls are this project's own.
use Rattle.std.specs.Prelude.{ℕ, Bool, List, [], ◌∷◌, map, codes, Option, Some, None, option_map, if◌then◌else◌}
use Rattle.serde_json.specs.Data.{Data, boolean, number, unsigned, string, array}
use Rattle.json_objects.specs.Objects.{items, object_of}
use Rattle.gnap_model.specs.declared.objects.Ask.{Ask}
use Rattle.gnap_model.specs.declared.calls.FinishOut.{FinishOut}
use Rattle.access_rights.specs.Printing.{rights_data}
use Rattle.interaction.specs.Hashes.{interaction_hash}
use Rattle.interaction.specs.Pushes.{push_body}
use Rattle.interaction.specs.Uris.{finish_uri}
use Rattle.gnap_replies.specs.Endpoints.{grant_endpoint}
use Rattle.gnap_replies.specs.Tokens.{flags_data}

-- a token that is asked for (RFC 9635, section 2.1)
abbrev pub ask_fields : Ask → List (List ℕ × Option Data)
ask_fields ask =
    (codes "access", Some (rights_data ask.rights)) ∷
    (codes "flags", flags_data ask.bearer) ∷
    (codes "label", option_map string ask.label) ∷ []

unfoldable pub ask_data : Ask → Data
ask_data ask = object_of (ask_fields ask)

-- what the user is asked
abbrev pub shown_fields : List Ask → List ℕ → ℕ → Bool → Option (List ℕ) → List (List ℕ × Option Data)
shown_fields asks client expires_in subject user =
    (codes "access_token", Some (array (items (map ask_data asks)))) ∷
    (codes "client", Some (string client)) ∷
    (codes "expires_in", Some (number (unsigned expires_in))) ∷
    (codes "subject", Some (boolean subject)) ∷
    (codes "user", option_map string user) ∷ []

-- the interaction with the code that the user typed
abbrev pub handle_fields : List ℕ → List (List ℕ × Option Data)
handle_fields handle = (codes "handle", Some (string handle)) ∷ []

-- the hash by which the client knows that the reference is for it (RFC 9635, section 4.2.3)
abbrev pub hash_of : List ℕ → FinishOut → List ℕ
hash_of base out = interaction_hash out.finish.long out.finish.nonce out.server_nonce out.reference (grant_endpoint base)

-- the front sends this body to the client (RFC 9635, section 4.2.2)
abbrev pub pushed_fields : List ℕ → FinishOut → List (List ℕ × Option Data)
pushed_fields base out =
    (codes "body", Some (string (push_body (hash_of base out) out.reference))) ∷
    (codes "finish", Some (string (codes "push"))) ∷
    (codes "uri", Some (string out.finish.uri)) ∷ []

-- the front sends the user to this URI (RFC 9635, section 4.2.1)
abbrev pub redirected_fields : List ℕ → FinishOut → List (List ℕ × Option Data)
redirected_fields base out =
    (codes "finish", Some (string (codes "redirect"))) ∷
    (codes "uri", option_map string (finish_uri out.finish.uri (hash_of base out) out.reference)) ∷ []

-- how the front tells the client that the decision was taken; the client polls where it asked for none of the two
abbrev pub decided_fields : List ℕ → Option FinishOut → List (List ℕ × Option Data)
decided_fields base None = (codes "finish", Some (string (codes "none"))) ∷ []
decided_fields base (Some out) = if out.finish.push then pushed_fields base out else redirected_fields base out
