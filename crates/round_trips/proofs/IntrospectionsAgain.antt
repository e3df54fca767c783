-- Replies to introspections that were printed are read again.
use Rattle.std.proofs.Common.{◌≡◌, ◌∙◌, ℕ, List, Bool, true, false, Option, Some, Ok, codes, refl}
use Rattle.std.proofs.lemmas.Slice.Eq.{bytes_eq-Decides}
use Rattle.serde_json.specs.Data.{Data, boolean}
use Rattle.serde_json.specs.Find.{get}
use Rattle.json_objects.specs.Bodies.{body_of}
use Rattle.json_objects.specs.Objects.{object_of}
use Rattle.gnap_model.specs.declared.rights.Right.{Right}
use Rattle.gnap_model.specs.declared.calls.Reply.TheVariants as reply
use Rattle.gnap_replies.specs.Endpoints.{grant_endpoint}
use Rattle.gnap_replies.specs.Introspections.{key_data, active_fields, inactive_fields}
use Rattle.gnap_replies.specs.Responses.{response_of}
use Rattle.grant_values.proofs.Readings.{or_none, found}
use Rattle.grant_values.proofs.RightsAgain.{rights_again}
use Rattle.reply_readers.specs.declared.judgement.Judgement.{Judgement}
use Rattle.reply_readers.specs.declared.judgement.Judgement.TheVariants as judged
use Rattle.reply_readers.specs.Members.{needed_text, needed_number, needed_rights, optional_text, bearer_of}
use Rattle.reply_readers.specs.Introspections.{key_of, key_in, exp_in, active_of, needed_flag, judgement_of, judgement_reading, judgement}
use Rattle.round_trips.specs.Introspections.{key_told, AreRead, IntrospectionsReadBack}
use Rattle.round_trips.proofs.MembersAgain.{text_there, number_there, rights_there, bearer_there}

said : (text : List ℕ) (d : Data) (j : Judgement) → body_of text ≡ Ok d → judgement_of d ≡ Ok j → judgement 200 text ≡ Some j
unfolding judgement_reading
said text d j body read = rw (body, read) refl

flag_there : (e : Data) (active : Bool) → get (codes "active") e ≡ Some (boolean active) → needed_flag e ≡ Ok active
flag_there e active there = rw there refl

active_only : (d : Data) (j : Judgement) → needed_flag d ≡ Ok true → active_of d ≡ Ok j → judgement_of d ≡ Ok j
unfolding judgement_of
active_only d j flag read = rw (flag, read) refl

inactive_only : (d : Data) → needed_flag d ≡ Ok false → judgement_of d ≡ Ok judged.Inactive
unfolding judgement_of
inactive_only d flag = rw flag refl

key_there : (e : Data) (bearer : Bool) (instance : List ℕ) → get (codes "key") e ≡ key_data bearer instance
    → optional_text (codes "key") e ≡ Ok (key_told bearer instance)
key_there e true instance there = rw there refl
key_there e false instance there = rw there refl

key_again : (bearer : Bool) (instance : List ℕ) → key_of bearer instance (key_told bearer instance) ≡ Ok (key_told bearer instance)
key_again true instance = refl
key_again false instance = rw ((bytes_eq-Decides instance instance).1 refl) refl

active_parts : (d : Data) (access : List Right) (exp iat : ℕ) (bearer : Bool) (instance iss : List ℕ) (named key : Option (List ℕ))
    → needed_rights (codes "access") d ≡ Ok access → needed_number (codes "exp") d ≡ Ok exp → bearer_of d ≡ Ok bearer
    → needed_number (codes "iat") d ≡ Ok iat → needed_text (codes "instance_id") d ≡ Ok instance → needed_text (codes "iss") d ≡ Ok iss
    → optional_text (codes "key") d ≡ Ok named → key_of bearer instance named ≡ Ok key → active_of d ≡ Ok (judged.Active access key exp)
unfolding active_of exp_in key_in
active_parts d access exp iat bearer instance iss named key e0 e1 e2 e3 e4 e5 e6 e7 = rw (e0, e1, e2, e3, e4, e5, e6, e7) refl

active_again : (base : List ℕ) (access : List Right) (iat exp : ℕ) (instance : List ℕ) (bearer : Bool) → AreRead access
    → judgement_of (object_of (active_fields base access iat exp instance bearer)) ≡ Ok (judged.Active access (key_told bearer instance) exp)
active_again base access iat exp instance bearer read =
    let fs = active_fields base access iat exp instance bearer in
    let e = object_of fs in
    active_only e (judged.Active access (key_told bearer instance) exp) (flag_there e true (found (codes "active") fs))
    (active_parts e access exp iat bearer instance (grant_endpoint base) (key_told bearer instance) (key_told bearer instance)
    (rights_there (codes "access") e access (found (codes "access") fs) (rights_again read.json access read.read read.fits))
    (number_there (codes "exp") e exp (found (codes "exp") fs))
    (bearer_there e bearer (found (codes "flags") fs ∙ or_none _))
    (number_there (codes "iat") e iat (found (codes "iat") fs))
    (text_there (codes "instance_id") e instance (found (codes "instance_id") fs))
    (text_there (codes "iss") e (grant_endpoint base) (found (codes "iss") fs))
    (key_there e bearer instance (found (codes "key") fs ∙ or_none _))
    (key_again bearer instance))

inactive_again : judgement_of (object_of inactive_fields) ≡ Ok judged.Inactive
inactive_again = inactive_only (object_of inactive_fields) (flag_there (object_of inactive_fields) false (found (codes "active") inactive_fields))

pub introspections_read_back_law : IntrospectionsReadBack
unfolding response_of
introspections_read_back_law setup (reply.Granted door tokens single subject instance) text is body = absurd is
introspections_read_back_law setup (reply.Pending door modes handle c nonce n instance) text is body = absurd is
introspections_read_back_law setup (reply.Continuing door) text is body = absurd is
introspections_read_back_law setup (reply.Rotated token) text is body = absurd is
introspections_read_back_law setup reply.Done text is body = absurd is
introspections_read_back_law setup (reply.Active access iat exp instance bearer) text is body =
    said text (object_of (active_fields setup.base access iat exp instance bearer)) (judged.Active access (key_told bearer instance) exp) body
    (active_again setup.base access iat exp instance bearer is)
introspections_read_back_law setup reply.Inactive text is body = said text (object_of inactive_fields) judged.Inactive body inactive_again
introspections_read_back_law setup (reply.Shown asks client n subject user) text is body = absurd is
introspections_read_back_law setup (reply.Handle handle) text is body = absurd is
introspections_read_back_law setup (reply.Decided finish) text is body = absurd is
introspections_read_back_law setup (reply.Error c) text is body = absurd is
introspections_read_back_law setup reply.Lapsed text is body = absurd is
