-- Requests that were read and printed are read again.
use Rattle.std.proofs.Common.{◌≡◌, ◌∙◌, ℕ, List, length, Bool, true, false, not, Option, Some, None, option_map, Ok, codes, refl, sym, ap, subst}
use Rattle.std.specs.Prelude.{◌==◌, ◌&&◌, is_some}
use Rattle.serde_json.specs.Data.{Data, string}
use Rattle.serde_json.specs.Find.{get, as_str, as_object}
use Rattle.json_objects.specs.Objects.{object_of}
use Rattle.json_objects.specs.Reading.{◌>>=◌, or_fault}
use Rattle.gnap_model.specs.declared.objects.Ask.{Ask}
use Rattle.gnap_model.specs.declared.objects.Modes.{Modes}
use Rattle.gnap_model.specs.declared.objects.GrantRequest.{GrantRequest}
use Rattle.gnap_objects.specs.declared.fault.ObjectFault.TheVariants as faults
use Rattle.gnap_objects.specs.Fits.{RequestFits}
use Rattle.gnap_objects.specs.Forms.{is_id}
use Rattle.gnap_objects.specs.Reading.{optional, checked_object, required, required_items, required_text, sized, checked, text_of, id_of, key_object, key_name_in, key_name_of}
use Rattle.gnap_objects.specs.TokenRequests.{token_requests_of}
use Rattle.gnap_objects.specs.Users.{subject_in, subject_request_of, first_opaque, identified_user, user_in, user_of}
use Rattle.gnap_objects.specs.Interactions.{interact_of}
use Rattle.gnap_objects.specs.Grants.{some_asked, client_of, named_user_of, asks_too_much, checked_size, grant_body_of, checked_flags, request_of}
use Rattle.grant_values.specs.Grants.{subject_request_data, client_data, request_fields, request_data}
use Rattle.grant_values.specs.Laws.{ReadsBack}
use Rattle.grant_values.proofs.Readings.{bind_ok, same_ok, along, carried, refused_not, accepted, sized_again, optional_again, or_none, found}
use Rattle.grant_values.proofs.TokenRequestsAgain.{requests_again}
use Rattle.grant_values.proofs.InteractionsAgain.{interact_again}

-- ---- subject

subject_in_again : (subject : Bool) → subject_in (subject_request_data subject) ≡ Ok subject
unfolding text_of
subject_in_again true = refl
subject_in_again false = refl

subject_again : (e : Data) (subject : Bool) → get (codes "subject") e ≡ subject_request_data subject → subject_request_of e ≡ Ok subject
unfolding subject_request_of
subject_again e subject there = ap subject_in there ∙ subject_in_again subject

-- ---- client

id_form : (name : List ℕ) (d : Data) (id : List ℕ) → id_of name d ≡ Ok id → is_id id ≡ true
unfolding id_of
id_form name d id is =
    let text = bind_ok (text_of name d) (checked is_id name) id is in
    let form = accepted (is_id text.0) _ text.0 id text.2 in
    subst (λ (x : List ℕ). is_id x ≡ true) form.1 form.0

object_form : (name : List ℕ) (d : Data) (b : Bool) (key : _) → key_object name d b ≡ Ok key → is_id key.id ≡ true
object_form name d false key is = absurd cc
object_form name d true key is =
    let id = bind_ok (required (codes "key") d >>= id_of (codes "key")) _ key is in
    let member = bind_ok (required (codes "key") d) (id_of (codes "key")) id.0 id.1 in
    carried (same_ok _ key id.2) (λ k. is_id k.id ≡ true) (id_form (codes "key") member.0 id.0 member.2)

key_form_in : (name : List ℕ) (d : Data) (o : Option (List ℕ)) (key : _) → key_name_in name d o ≡ Ok key → is_id key.id ≡ true
key_form_in name d None key is = object_form name d (is_some (as_object d)) key is
key_form_in name d (Some s) key is =
    let id = bind_ok (id_of name d) _ key is in
    carried (same_ok _ key id.2) (λ k. is_id k.id ≡ true) (id_form name d id.0 id.1)

key_form : (name : List ℕ) (d : Data) (key : _) → key_name_of name d ≡ Ok key → is_id key.id ≡ true
unfolding key_name_of
key_form name d key is = key_form_in name d (as_str d) key is

printed_key : (name : List ℕ) (by_object : Bool) (id : List ℕ) → is_id id ≡ true
    → key_name_of name (client_data by_object id) ≡ Ok (record { id = id; by_object = by_object })
unfolding key_name_of id_of text_of
printed_key name true id form = rw form refl
printed_key name false id form = rw form refl

client_again : (modify : Bool) (d e : Data) (client : _) → client_of modify d ≡ Ok client
    → get (codes "client") e ≡ option_map (client_data client.by_object) client.id → client_of modify e ≡ Ok client
unfolding client_of
client_again true d e client is there = is
client_again false d e client is there =
    let key = bind_ok (required (codes "client") d >>= key_name_of (codes "client")) _ client is in
    let member = bind_ok (required (codes "client") d) (key_name_of (codes "client")) key.0 key.1 in
    let same = same_ok _ client key.2 in
    let printed : get (codes "client") e ≡ Some (client_data key.0.by_object key.0.id) = there
    ∙ along (sym same) (λ c. option_map (client_data c.by_object) c.id) in
    rw (printed, printed_key (codes "client") key.0.by_object key.0.id (key_form (codes "client") member.0 key.0 member.2)) (ap Ok same)

-- ---- user

named_in : (d : Data) (o : Option (List ℕ)) (user : List ℕ) → user_in d o ≡ Ok user → sized 256 (codes "user") user ≡ Ok user
unfolding identified_user
named_in d (Some s) user is = sized_again 256 (codes "user") (codes "user") s user is
named_in d None user is =
    let ids = bind_ok (checked_object (codes "user") d >>= required_items (codes "sub_ids")) _ user is in
    let text = bind_ok (or_fault (faults.Wrong (codes "sub_ids")) (first_opaque ids.0) >>= required_text (codes "id")) (sized 256 (codes "id")) user ids.2 in
    sized_again 256 (codes "id") (codes "user") text.0 user text.2

user_again : (d e : Data) (user : Option (List ℕ)) → user_of d ≡ Ok user → get (codes "user") e ≡ option_map string user → user_of e ≡ Ok user
unfolding user_of
user_again d e user is there =
    let reading = λ (u : Data). user_in u (as_str u) in
    ap (optional reading) there ∙ optional_again reading string (λ u name read. named_in u (as_str u) name read) (get (codes "user") d) user is

named_again : (modify : Bool) (d e : Data) (user : Option (List ℕ)) → named_user_of modify d ≡ Ok user → get (codes "user") e ≡ option_map string user
    → named_user_of modify e ≡ Ok user
named_again true d e user is there = is
named_again false d e user is there = user_again d e user is there

-- ---- the whole

abbrev asked : List Ask → Bool → Bool → Option (List ℕ) → Bool → Option (List ℕ) → Option Modes → GrantRequest
asked asks single subject client by_object user modes =
    record { asks = asks; single = single; subject = subject; client = client; by_object = by_object; user = user; modes = modes }

some_again : (ts us : _) (subject : Bool) → some_asked ts subject ≡ Ok us
    → some_asked (record { asks = ts.asks; single = ts.single; repeats_flag = false }) subject
    ≡ Ok (record { asks = ts.asks; single = ts.single; repeats_flag = false })
some_again ts us subject is = let some = refused_not (length ts.asks == 0 && not subject) _ ts us is in rw some.0 refl

size_again : (ts us : _) → checked_size ts ≡ Ok us
    → checked_size (record { asks = ts.asks; single = ts.single; repeats_flag = false })
    ≡ Ok (record { asks = ts.asks; single = ts.single; repeats_flag = false })
size_again ts us is = let small = refused_not (asks_too_much ts.asks) _ ts us is in rw small.0 refl

body_parts : (modify : Bool) (e : Data) (asks : List Ask) (single subject : Bool) (client : Option (List ℕ)) (by_object : Bool) (user : Option (List ℕ))
    (modes : Option Modes)
    → token_requests_of e ≡ Ok (record { asks = asks; single = single; repeats_flag = false }) → subject_request_of e ≡ Ok subject
    → some_asked (record { asks = asks; single = single; repeats_flag = false }) subject ≡ Ok (record { asks = asks; single = single; repeats_flag = false })
    → client_of modify e ≡ Ok (record { id = client; by_object = by_object }) → named_user_of modify e ≡ Ok user → interact_of e ≡ Ok modes
    → checked_size (record { asks = asks; single = single; repeats_flag = false }) ≡ Ok (record { asks = asks; single = single; repeats_flag = false })
    → grant_body_of modify e ≡ Ok (record { request = asked asks single subject client by_object user modes; repeats_flag = false })
unfolding grant_body_of
body_parts modify e asks single subject client by_object user modes e0 e1 e2 e3 e4 e5 e6 = rw (e0, e1, e2, e3, e4, e5, e6) refl

body_again : (modify : Bool) (existing : Option (List ℕ)) (d : Data) (body : _) → grant_body_of modify d ≡ Ok body → RequestFits body.request
    → grant_body_of modify (request_data existing body.request) ≡ Ok (record { request = body.request; repeats_flag = false })
unfolding grant_body_of request_data
body_again modify existing d body is fits =
    let tokens = bind_ok (token_requests_of d) _ body is in
    let subject = bind_ok (subject_request_of d) _ body tokens.2 in
    let some = bind_ok (some_asked tokens.0 subject.0) _ body subject.2 in
    let client = bind_ok (client_of modify d) _ body some.2 in
    let user = bind_ok (named_user_of modify d) _ body client.2 in
    let modes = bind_ok (interact_of d) _ body user.2 in
    let small = bind_ok (checked_size tokens.0) _ body modes.2 in
    let request = asked tokens.0.asks tokens.0.single subject.0 client.0.id client.0.by_object user.0 modes.0 in
    let same : request ≡ body.request = along (same_ok _ body small.2) (λ b. b.request) in
    let fit = subst RequestFits (sym same) fits in
    let fs = request_fields existing request in
    let e = object_of fs in
    subst (λ (r : GrantRequest). grant_body_of modify (request_data existing r) ≡ Ok (record { request = r; repeats_flag = false })) same
    (body_parts modify e tokens.0.asks tokens.0.single subject.0 client.0.id client.0.by_object user.0 modes.0
    (requests_again d e tokens.0 tokens.1 fit.0 (found (codes "access_token") fs ∙ or_none _))
    (subject_again e subject.0 (found (codes "subject") fs ∙ or_none _))
    (some_again tokens.0 some.0 subject.0 some.1)
    (client_again modify d e client.0 client.1 (found (codes "client") fs ∙ or_none _))
    (named_again modify d e user.0 user.1 (found (codes "user") fs ∙ or_none _))
    (interact_again d e modes.0 modes.1 (found (codes "interact") fs ∙ or_none _))
    (size_again tokens.0 small.0 small.1))

request_again : (modify : Bool) (existing : Option (List ℕ)) (d : Data) (request : GrantRequest) → request_of modify d ≡ Ok request → RequestFits request
    → request_of modify (request_data existing request) ≡ Ok request
unfolding request_of
request_again modify existing d request is fits =
    let body = bind_ok (grant_body_of modify d) checked_flags request is in
    let same = (refused_not body.0.repeats_flag _ body.0.request request body.2).1 in
    let fit = subst RequestFits (sym same) fits in
    subst (λ (x : GrantRequest). (grant_body_of modify (request_data existing x) >>= checked_flags) ≡ Ok x) same
    (along (body_again modify existing d body.0 body.1 fit) (λ r. r >>= checked_flags))

existing_again : (existing : Option (List ℕ)) (request : GrantRequest)
    → get (codes "existing_access_token") (request_data existing request) ≡ option_map string existing
unfolding request_data
existing_again existing request = found (codes "existing_access_token") (request_fields existing request) ∙ or_none _

pub reads_back_law : ReadsBack
reads_back_law modify existing request read = (request_again modify existing read.body request read.read read.fits, existing_again existing request)
