-- Members that were printed are read again.
use Rattle.std.proofs.Common.{◌≡◌, ◌∙◌, ℕ, List, [], ◌∷◌, map, Bool, true, false, Option, Some, None, option_map, Ok, codes, refl}
use Rattle.std.specs.Prelude.{◌||◌, is_some, if◌then◌else◌}
use Rattle.std.specs.List.{AllByRecursion}
use Rattle.serde_json.specs.Data.{Data, string, number, unsigned}
use Rattle.serde_json.specs.Find.{get, as_array}
use Rattle.json_objects.specs.Objects.{object_of, items}
use Rattle.json_objects.specs.Reading.{each}
use Rattle.access_rights.specs.Reading.{rights_of}
use Rattle.access_rights.specs.Printing.{rights_data}
use Rattle.gnap_model.specs.declared.rights.Right.{Right}
use Rattle.gnap_model.specs.declared.objects.Modes.{Modes}
use Rattle.gnap_model.specs.declared.calls.TokenOut.{TokenOut}
use Rattle.gnap_model.specs.Limits.{wait}
use Rattle.gnap_replies.specs.Endpoints.{continuation_endpoint, management_endpoint, interaction_page, code_page}
use Rattle.gnap_replies.specs.Tokens.{flags_data, bare_token_fields, manage_fields, token_fields, token_data, tokens_data}
use Rattle.gnap_replies.specs.Grants.{continue_fields, continue_data, subject_data, where_offered, code_page_fields, interact_fields, interact_data}
use Rattle.grant_values.proofs.Readings.{or_none, found}
use Rattle.grant_values.proofs.RightsAgain.{rights_again}
use Rattle.reply_readers.specs.Members.{needed, needed_text, needed_number, needed_rights, optional_text, where_there, bearer_of, is_value, is_drawn}
use Rattle.reply_readers.specs.Grants.{manage_of, token_of, tokens_in, tokens_where, tokens_of, continue_of, subject_in, subject_of, code_uri_in, code_of, uri_of, interaction_of}
use Rattle.round_trips.specs.GrantReplies.{where_asked, interaction_told, IsHandedOut, AreAsked}

-- ---- members of one kind

pub needed_there : (name : List ℕ) (e d : Data) → get name e ≡ Some d → needed name e ≡ Ok d
needed_there name e d there = rw there refl

pub text_there : (name : List ℕ) (e : Data) (s : List ℕ) → get name e ≡ Some (string s) → needed_text name e ≡ Ok s
text_there name e s there = rw there refl

pub number_there : (name : List ℕ) (e : Data) (n : ℕ) → get name e ≡ Some (number (unsigned n)) → needed_number name e ≡ Ok n
number_there name e n there = rw there refl

pub optional_there : (name : List ℕ) (e : Data) (o : Option (List ℕ)) → get name e ≡ option_map string o → optional_text name e ≡ Ok o
optional_there name e None there = rw there refl
optional_there name e (Some s) there = rw there refl

offered_there : (name : List ℕ) (e : Data) (offered : Bool) (s : List ℕ) → get name e ≡ where_offered offered (string s)
    → optional_text name e ≡ Ok (where_asked offered s)
offered_there name e true s there = rw there refl
offered_there name e false s there = rw there refl

pub rights_there : (name : List ℕ) (e : Data) (rights : List Right) → get name e ≡ Some (rights_data rights) → rights_of (rights_data rights) ≡ Ok rights
    → needed_rights name e ≡ Ok rights
rights_there name e rights there read = rw (there, read) refl

pub bearer_there : (e : Data) (bearer : Bool) → get (codes "flags") e ≡ flags_data bearer → bearer_of e ≡ Ok bearer
bearer_there e true there = rw there refl
bearer_there e false there = rw there refl

-- ---- tokens

manage_parts : (e m t : Data) (uri manage : List ℕ) → needed (codes "manage") e ≡ Ok m → needed (codes "access_token") m ≡ Ok t
    → needed_text (codes "uri") m ≡ Ok uri → needed_text (codes "value") t ≡ Ok manage → is_drawn manage ≡ true → manage_of e ≡ Ok manage
unfolding manage_of
manage_parts e m t uri manage e0 e1 e2 e3 e4 = rw (e0, e1, e2, e3, e4) refl

manage_there : (base manage : List ℕ) (e : Data) → get (codes "manage") e ≡ Some (object_of (manage_fields base manage)) → is_drawn manage ≡ true
    → manage_of e ≡ Ok manage
manage_there base manage e there drawn =
    manage_parts e (object_of (manage_fields base manage)) (object_of (bare_token_fields manage)) (management_endpoint base) manage
    (needed_there (codes "manage") e (object_of (manage_fields base manage)) there) refl refl refl drawn

token_parts : (d : Data) (t : TokenOut) → needed_rights (codes "access") d ≡ Ok t.rights → needed_number (codes "expires_in") d ≡ Ok t.expires_in
    → bearer_of d ≡ Ok t.bearer → optional_text (codes "label") d ≡ Ok t.label → manage_of d ≡ Ok t.manage → needed_text (codes "value") d ≡ Ok t.value
    → is_drawn t.value ≡ true → token_of d ≡ Ok t
unfolding token_of
token_parts d t e0 e1 e2 e3 e4 e5 e6 = rw (e0, e1, e2, e3, e4, e5, e6) refl

pub token_again : (base : List ℕ) (t : TokenOut) → IsHandedOut t → token_of (token_data base t) ≡ Ok t
unfolding token_data
token_again base t out =
    let fs = token_fields base t in
    let e = object_of fs in
    token_parts e t
    (rights_there (codes "access") e t.rights (found (codes "access") fs) (rights_again out.access t.rights out.read out.fits))
    (number_there (codes "expires_in") e t.expires_in (found (codes "expires_in") fs))
    (bearer_there e t.bearer (found (codes "flags") fs ∙ or_none _))
    (optional_there (codes "label") e t.label (found (codes "label") fs ∙ or_none _))
    (manage_there base t.manage e (found (codes "manage") fs) out.manage)
    (text_there (codes "value") e t.value (found (codes "value") fs))
    out.value

each_again : (base : List ℕ) (ts : List TokenOut) → AllByRecursion IsHandedOut ts → each token_of (items (map (token_data base) ts)) ≡ Ok ts
each_again base [] out = refl
each_again base (t ∷ ts) out = rw (token_again base t out.0, each_again base ts out.1) refl

no_array : (base : List ℕ) (t : TokenOut) → as_array (token_data base t) ≡ None
unfolding token_data
no_array base t = refl

one_token : (d : Data) (t : TokenOut) → as_array d ≡ None → token_of d ≡ Ok t → tokens_in d ≡ Ok (t ∷ [])
unfolding tokens_in
one_token d t alone read = rw (alone, read) refl

tokens_again : (base : List ℕ) (single : Bool) (ts : List TokenOut) → AllByRecursion IsHandedOut ts → AreAsked single ts
    → tokens_where (tokens_data base single ts) ≡ Ok ts
unfolding tokens_in
tokens_again base true [] out asked = refl
tokens_again base false [] out asked = refl
tokens_again base true (t ∷ []) out asked = one_token (token_data base t) t (no_array base t) (token_again base t out.0)
tokens_again base true (t ∷ u ∷ ts) out asked = absurd asked
tokens_again base false (t ∷ ts) out asked = rw (token_again base t out.0, each_again base ts out.1) refl

pub tokens_there : (base : List ℕ) (single : Bool) (ts : List TokenOut) (e : Data) → AllByRecursion IsHandedOut ts → AreAsked single ts
    → get (codes "access_token") e ≡ tokens_data base single ts → tokens_of e ≡ Ok ts
unfolding tokens_of
tokens_there base single ts e out asked there = rw there (tokens_again base single ts out asked)

-- ---- the continuation, the user

continue_parts : (e m t : Data) (uri door : List ℕ) (seconds : ℕ) → needed (codes "continue") e ≡ Ok m → needed (codes "access_token") m ≡ Ok t
    → needed_text (codes "uri") m ≡ Ok uri → needed_number (codes "wait") m ≡ Ok seconds → needed_text (codes "value") t ≡ Ok door → is_value door ≡ true
    → continue_of e ≡ Ok door
unfolding continue_of
continue_parts e m t uri door seconds e0 e1 e2 e3 e4 e5 = rw (e0, e1, e2, e3, e4, e5) refl

pub continue_there : (base door : List ℕ) (e : Data) → get (codes "continue") e ≡ Some (continue_data base door) → is_value door ≡ true
    → continue_of e ≡ Ok door
unfolding continue_data
continue_there base door e there value =
    continue_parts e (object_of (continue_fields base door)) (object_of (bare_token_fields door)) (continuation_endpoint base) door wait
    (needed_there (codes "continue") e (object_of (continue_fields base door)) there) refl refl refl refl value

pub subject_there : (e : Data) (subject : Option (List ℕ)) → get (codes "subject") e ≡ option_map subject_data subject → subject_of e ≡ Ok subject
unfolding subject_of subject_in
subject_there e None there = rw there refl
subject_there e (Some id) there = rw there refl

-- ---- the interaction

abbrev page_asked : Bool → List ℕ → List ℕ → Option (List ℕ × List ℕ)
page_asked asked code page = if asked then Some (code, page) else None

page_there : (e : Data) (offered : Bool) (front code : List ℕ)
    → get (codes "user_code_uri") e ≡ where_offered offered (object_of (code_page_fields front code))
    → where_there code_uri_in (get (codes "user_code_uri") e) ≡ Ok (page_asked offered code (code_page front))
unfolding code_uri_in
page_there e true front code there = rw there refl
page_there e false front code there = rw there refl

code_same : (alone paged : Bool) (code page : List ℕ) → code_of (where_asked alone code) (page_asked paged code page) ≡ where_asked (alone || paged) code
code_same true true code page = refl
code_same true false code page = refl
code_same false true code page = refl
code_same false false code page = refl

uri_same : (paged : Bool) (code page : List ℕ) → uri_of (page_asked paged code page) ≡ where_asked paged page
uri_same true code page = refl
uri_same false code page = refl

interaction_parts : (d : Data) (n : ℕ) (server_nonce redirect alone : Option (List ℕ)) (both : Option (List ℕ × List ℕ)) (code uri : Option (List ℕ))
    → needed_number (codes "expires_in") d ≡ Ok n → optional_text (codes "finish") d ≡ Ok server_nonce → optional_text (codes "redirect") d ≡ Ok redirect
    → optional_text (codes "user_code") d ≡ Ok alone → where_there code_uri_in (get (codes "user_code_uri") d) ≡ Ok both
    → code_of alone both ≡ code → uri_of both ≡ uri
    → interaction_of d ≡ Ok (record { redirect = redirect; user_code = code; user_code_uri = uri; nonce = server_nonce; expires_in = n })
unfolding interaction_of
interaction_parts d n server_nonce redirect alone both code uri e0 e1 e2 e3 e4 e5 e6 = rw (e0, e1, e2, e3, e4, e5, e6) refl

pub interaction_again : (front : List ℕ) (modes : Modes) (handle code nonce : List ℕ) (n : ℕ)
    → interaction_of (interact_data front modes handle code nonce n) ≡ Ok (interaction_told front modes handle code nonce n)
unfolding interact_data
interaction_again front modes handle code nonce n =
    let fs = interact_fields front modes handle code nonce n in
    let e = object_of fs in
    interaction_parts e n (where_asked (is_some modes.finish) nonce) (where_asked modes.redirect (interaction_page front handle))
    (where_asked modes.user_code code) (page_asked modes.user_code_uri code (code_page front))
    (where_asked (modes.user_code || modes.user_code_uri) code) (where_asked modes.user_code_uri (code_page front))
    (number_there (codes "expires_in") e n (found (codes "expires_in") fs))
    (offered_there (codes "finish") e (is_some modes.finish) nonce (found (codes "finish") fs ∙ or_none _))
    (offered_there (codes "redirect") e modes.redirect (interaction_page front handle) (found (codes "redirect") fs ∙ or_none _))
    (offered_there (codes "user_code") e modes.user_code code (found (codes "user_code") fs ∙ or_none _))
    (page_there e modes.user_code_uri front code (found (codes "user_code_uri") fs ∙ or_none _))
    (code_same modes.user_code modes.user_code_uri code (code_page front))
    (uri_same modes.user_code_uri code (code_page front))
