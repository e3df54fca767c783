-- Ways to interact that were read and printed are read again.
use Rattle.std.proofs.Common.{◌≡◌, ◌∙◌, ℕ, List, map, Bool, true, false, Option, Some, option_map, Ok, codes, refl, ap}
use Rattle.std.specs.List.{list_any}
use Rattle.std.specs.Str.{bytes_eq}
use Rattle.serde_json.specs.Data.{Data, string, Items}
use Rattle.serde_json.specs.Find.{get}
use Rattle.json_objects.specs.Objects.{items, object_of, texts_data}
use Rattle.json_objects.specs.Reading.{◌>>=◌}
use Rattle.interaction.specs.Uris.{uri_fits}
use Rattle.gnap_model.specs.declared.objects.Finish.{Finish}
use Rattle.gnap_model.specs.declared.objects.Modes.{Modes}
use Rattle.gnap_objects.specs.Reading.{optional, checked_object, required_items, required_text, has_string, text_of, sized, checked}
use Rattle.gnap_objects.specs.Interactions.{push_in, push_of, finish_uri_of, nonce_of, hash_in, long_of, asked_finish_of, optional_finish_of, offered_modes_of, interact_of}
use Rattle.grant_values.specs.Interactions.{finish_method, hash_method_data, finish_fields, finish_data, starts_of, modes_fields, modes_data}
use Rattle.grant_values.proofs.Readings.{bind_ok, same_ok, sized_again, checked_again, texts_again, required_text_again, optional_again, or_none, found}

-- ---- finish

push_in_again : (push : Bool) → push_in (finish_method push) ≡ Ok push
push_in_again true = refl
push_in_again false = refl

push_again : (e : Data) (push : Bool) → get (codes "method") e ≡ Some (string (finish_method push)) → push_of e ≡ Ok push
unfolding push_of
push_again e push there = rw (required_text_again (codes "method") e (finish_method push) there) (push_in_again push)

uri_again : (d e : Data) (uri : List ℕ) → finish_uri_of d ≡ Ok uri → get (codes "uri") e ≡ Some (string uri) → finish_uri_of e ≡ Ok uri
unfolding finish_uri_of
uri_again d e uri is there =
    let tested = bind_ok (required_text (codes "uri") d >>= sized 2048 (codes "uri")) (checked uri_fits (codes "uri")) uri is in
    let text = bind_ok (required_text (codes "uri") d) (sized 2048 (codes "uri")) tested.0 tested.1 in
    let fits = checked_again uri_fits (codes "uri") tested.0 uri tested.2 in
    let size : sized 2048 (codes "uri") uri ≡ Ok uri = sized_again 2048 (codes "uri") (codes "uri") text.0 uri (text.2 ∙ ap Ok fits.0) in
    rw (required_text_again (codes "uri") e uri there, size) fits.1

nonce_again : (d e : Data) (nonce : List ℕ) → nonce_of d ≡ Ok nonce → get (codes "nonce") e ≡ Some (string nonce) → nonce_of e ≡ Ok nonce
unfolding nonce_of
nonce_again d e nonce is there =
    let text = bind_ok (required_text (codes "nonce") d) (sized 256 (codes "nonce")) nonce is in
    rw (required_text_again (codes "nonce") e nonce there) (sized_again 256 (codes "nonce") (codes "nonce") text.0 nonce text.2)

hash_in_again : (long : Bool) → hash_in (hash_method_data long) ≡ Ok long
unfolding text_of
hash_in_again true = refl
hash_in_again false = refl

long_again : (e : Data) (long : Bool) → get (codes "hash_method") e ≡ hash_method_data long → long_of e ≡ Ok long
unfolding long_of
long_again e long there = ap hash_in there ∙ hash_in_again long

finish_parts : (e : Data) (f : Finish) → checked_object (codes "finish") e ≡ Ok e → push_of e ≡ Ok f.push → finish_uri_of e ≡ Ok f.uri → nonce_of e ≡ Ok f.nonce
    → long_of e ≡ Ok f.long
    → asked_finish_of e ≡ Ok f
unfolding asked_finish_of
finish_parts e f whole push uri nonce long = rw (whole, push, uri, nonce, long) refl

printed_finish : (d : Data) (f : Finish) → finish_uri_of d ≡ Ok f.uri → nonce_of d ≡ Ok f.nonce → asked_finish_of (finish_data f) ≡ Ok f
unfolding finish_data
printed_finish d f uri nonce =
    let fs = finish_fields f in
    let e = object_of fs in
    finish_parts e f refl
    (push_again e f.push (found (codes "method") fs))
    (uri_again d e f.uri uri (found (codes "uri") fs))
    (nonce_again d e f.nonce nonce (found (codes "nonce") fs))
    (long_again e f.long (found (codes "hash_method") fs ∙ or_none _))

finish_again : (d : Data) (f : Finish) → asked_finish_of d ≡ Ok f → asked_finish_of (finish_data f) ≡ Ok f
unfolding asked_finish_of
finish_again d f is =
    let whole = bind_ok (checked_object (codes "finish") d) _ f is in
    let push = bind_ok (push_of whole.0) _ f whole.2 in
    let uri = bind_ok (finish_uri_of whole.0) _ f push.2 in
    let nonce = bind_ok (nonce_of whole.0) _ f uri.2 in
    let long = bind_ok (long_of whole.0) _ f nonce.2 in
    let made : Finish = record { push = push.0; uri = uri.0; nonce = nonce.0; long = long.0 } in
    let same = same_ok made f long.2 in
    printed_finish whole.0 f (uri.1 ∙ ap (λ (x : Finish). Ok x.uri) same) (nonce.1 ∙ ap (λ (x : Finish). Ok x.nonce) same)

optional_finish_again : (d e : Data) (finish : Option Finish) → optional_finish_of d ≡ Ok finish → get (codes "finish") e ≡ option_map finish_data finish
    → optional_finish_of e ≡ Ok finish
unfolding optional_finish_of
optional_finish_again d e finish is there = ap (optional asked_finish_of) there
    ∙ optional_again asked_finish_of finish_data finish_again (get (codes "finish") d) finish is

-- ---- start

abbrev lists : List ℕ → Modes → Bool
lists wanted modes = list_any (λ text. bytes_eq text wanted) (starts_of modes)

abbrev offering : Bool → Bool → Bool → Option Finish → Modes
offering redirect user_code user_code_uri finish = record { redirect = redirect; user_code = user_code; user_code_uri = user_code_uri; finish = finish }

lists_offered : (redirect user_code user_code_uri : Bool) (finish : Option Finish)
    → (lists (codes "redirect") (offering redirect user_code user_code_uri finish) ≡ redirect)
    × (lists (codes "user_code") (offering redirect user_code user_code_uri finish) ≡ user_code)
    × (lists (codes "user_code_uri") (offering redirect user_code user_code_uri finish) ≡ user_code_uri)
lists_offered true true true finish = (refl, refl, refl)
lists_offered true true false finish = (refl, refl, refl)
lists_offered true false true finish = (refl, refl, refl)
lists_offered true false false finish = (refl, refl, refl)
lists_offered false true true finish = (refl, refl, refl)
lists_offered false true false finish = (refl, refl, refl)
lists_offered false false true finish = (refl, refl, refl)
lists_offered false false false finish = (refl, refl, refl)

start_again : (wanted : List ℕ) (modes : Modes) (offered : Bool) → lists wanted modes ≡ offered
    → has_string (codes "start") wanted (items (map string (starts_of modes))) ≡ Ok offered
start_again wanted modes offered is = rw (texts_again (codes "start") (starts_of modes)) (ap Ok is)

-- ---- modes

modes_parts : (e : Data) (m : Modes) (starts : Items) → checked_object (codes "interact") e ≡ Ok e → required_items (codes "start") e ≡ Ok starts
    → has_string (codes "start") (codes "redirect") starts ≡ Ok m.redirect → has_string (codes "start") (codes "user_code") starts ≡ Ok m.user_code
    → has_string (codes "start") (codes "user_code_uri") starts ≡ Ok m.user_code_uri → optional_finish_of e ≡ Ok m.finish → offered_modes_of e ≡ Ok m
unfolding offered_modes_of
modes_parts e m starts whole items redirect user_code user_code_uri finish = rw (whole, items, redirect, user_code, user_code_uri, finish) refl

starts_there : (e : Data) (m : Modes) → get (codes "start") e ≡ Some (texts_data (starts_of m))
    → required_items (codes "start") e ≡ Ok (items (map string (starts_of m)))
starts_there e m there = rw there refl

printed_modes : (d : Data) (m : Modes) → optional_finish_of d ≡ Ok m.finish → offered_modes_of (modes_data m) ≡ Ok m
unfolding modes_data
printed_modes d m finish =
    let fs = modes_fields m in
    let e = object_of fs in
    let offered = lists_offered m.redirect m.user_code m.user_code_uri m.finish in
    modes_parts e m (items (map string (starts_of m))) refl (starts_there e m (found (codes "start") fs))
    (start_again (codes "redirect") m m.redirect offered.0) (start_again (codes "user_code") m m.user_code offered.1)
    (start_again (codes "user_code_uri") m m.user_code_uri offered.2)
    (optional_finish_again d e m.finish finish (found (codes "finish") fs ∙ or_none _))

modes_again : (d : Data) (m : Modes) → offered_modes_of d ≡ Ok m → offered_modes_of (modes_data m) ≡ Ok m
unfolding offered_modes_of
modes_again d m is =
    let whole = bind_ok (checked_object (codes "interact") d) _ m is in
    let starts = bind_ok (required_items (codes "start") whole.0) _ m whole.2 in
    let redirect = bind_ok (has_string (codes "start") (codes "redirect") starts.0) _ m starts.2 in
    let user_code = bind_ok (has_string (codes "start") (codes "user_code") starts.0) _ m redirect.2 in
    let user_code_uri = bind_ok (has_string (codes "start") (codes "user_code_uri") starts.0) _ m user_code.2 in
    let finish = bind_ok (optional_finish_of whole.0) _ m user_code_uri.2 in
    let made = offering redirect.0 user_code.0 user_code_uri.0 finish.0 in
    let same = same_ok made m finish.2 in
    printed_modes whole.0 m (finish.1 ∙ ap (λ (x : Modes). Ok x.finish) same)

pub interact_again : (d e : Data) (modes : Option Modes) → interact_of d ≡ Ok modes → get (codes "interact") e ≡ option_map modes_data modes
    → interact_of e ≡ Ok modes
unfolding interact_of
interact_again d e modes is there = ap (optional offered_modes_of) there
    ∙ optional_again offered_modes_of modes_data modes_again (get (codes "interact") d) modes is
