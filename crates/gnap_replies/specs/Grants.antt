-- The replies to a client as JSON (RFC 9635, section 3).
use Rattle.std.specs.Prelude.{ℕ, Bool, List, [], ◌∷◌, codes, Option, Some, None, option_map, is_some, if◌then◌else◌}
use Rattle.serde_json.specs.Data.{Data, number, unsigned, string, array, item, no_items}
use Rattle.json_objects.specs.Objects.{object_of}
use Rattle.gnap_model.specs.declared.objects.Modes.{Modes}
use Rattle.gnap_model.specs.declared.calls.TokenOut.{TokenOut}
use Rattle.gnap_model.specs.Limits.{wait}
use Rattle.gnap_replies.specs.Endpoints.{continuation_endpoint, interaction_page, code_page}
use Rattle.gnap_replies.specs.Tokens.{bare_token_fields, token_data, tokens_data}

-- how the grant is continued (RFC 9635, section 3.1)
abbrev pub continue_fields : List ℕ → List ℕ → List (List ℕ × Option Data)
continue_fields base door =
    (codes "access_token", Some (object_of (bare_token_fields door))) ∷
    (codes "uri", Some (string (continuation_endpoint base))) ∷
    (codes "wait", Some (number (unsigned wait))) ∷ []

unfoldable pub continue_data : List ℕ → List ℕ → Data
continue_data base door = object_of (continue_fields base door)

-- the user's opaque identifier (RFC 9635, section 3.4)
abbrev pub sub_id_fields : List ℕ → List (List ℕ × Option Data)
sub_id_fields id = (codes "format", Some (string (codes "opaque"))) ∷ (codes "id", Some (string id)) ∷ []

abbrev pub subject_fields : List ℕ → List (List ℕ × Option Data)
subject_fields id = (codes "sub_ids", Some (array (item (object_of (sub_id_fields id)) no_items))) ∷ []

abbrev pub subject_data : List ℕ → Data
subject_data id = object_of (subject_fields id)

-- the grant is approved (RFC 9635, section 3.2)
abbrev pub granted_fields : List ℕ → List ℕ → List TokenOut → Bool → Option (List ℕ) → Option (List ℕ) → List (List ℕ × Option Data)
granted_fields base door tokens single subject instance =
    (codes "access_token", tokens_data base single tokens) ∷
    (codes "continue", Some (continue_data base door)) ∷
    (codes "instance_id", option_map string instance) ∷
    (codes "subject", option_map subject_data subject) ∷ []

-- a member for a way to interact that was offered
abbrev pub where_offered : Bool → Data → Option Data
where_offered offered d = if offered then Some d else None

abbrev pub code_page_fields : List ℕ → List ℕ → List (List ℕ × Option Data)
code_page_fields front code = (codes "code", Some (string code)) ∷ (codes "uri", Some (string (code_page front))) ∷ []

-- how the client can interact with the user (RFC 9635, section 3.3)
abbrev pub interact_fields : List ℕ → Modes → List ℕ → List ℕ → List ℕ → ℕ → List (List ℕ × Option Data)
interact_fields front modes handle code nonce expires_in =
    (codes "expires_in", Some (number (unsigned expires_in))) ∷
    (codes "finish", where_offered (is_some modes.finish) (string nonce)) ∷
    (codes "redirect", where_offered modes.redirect (string (interaction_page front handle))) ∷
    (codes "user_code", where_offered modes.user_code (string code)) ∷
    (codes "user_code_uri", where_offered modes.user_code_uri (object_of (code_page_fields front code))) ∷ []

unfoldable pub interact_data : List ℕ → Modes → List ℕ → List ℕ → List ℕ → ℕ → Data
interact_data front modes handle code nonce expires_in = object_of (interact_fields front modes handle code nonce expires_in)

-- the user is asked
abbrev pub pending_fields : List ℕ → List ℕ → Data → Option (List ℕ) → List (List ℕ × Option Data)
pending_fields base door interact instance =
    (codes "continue", Some (continue_data base door)) ∷
    (codes "instance_id", option_map string instance) ∷
    (codes "interact", Some interact) ∷ []

-- nothing is new
abbrev pub continuing_fields : List ℕ → List ℕ → List (List ℕ × Option Data)
continuing_fields base door = (codes "continue", Some (continue_data base door)) ∷ []

-- a token has a successor (RFC 9635, section 6.1)
abbrev pub rotated_fields : List ℕ → TokenOut → List (List ℕ × Option Data)
rotated_fields base token = (codes "access_token", Some (token_data base token)) ∷ []
