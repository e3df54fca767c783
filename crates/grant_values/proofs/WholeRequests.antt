-- What is printed has no float, so that its text is known, and what is read of the text.
use Rattle.std.proofs.Common.{◌≡◌, ℕ, List, [], ◌∷◌, map, Bool, true, false, Option, Some, None, option_map, Ok, refl, ap, ◌∙◌}
use Rattle.std.specs.Prelude.{◌≤◌, is_some}
use Rattle.std.specs.List.{AllByRecursion}
use Rattle.std.specs.Str.{IsUtf8}
use Rattle.serde_json.specs.Data.{Data, no_members, depth}
use Rattle.serde_json.specs.Find.{as_object}
use Rattle.serde_json.specs.Read.{read, max_depth}
use Rattle.serde_json.specs.Written.{compact_text, has_float, items_have_float}
use Rattle.json_objects.specs.Bodies.{body_of}
use Rattle.json_objects.specs.Objects.{items}
use Rattle.json_objects.proofs.Bodies.{body_is}
use Rattle.json_objects.proofs.Whole.{IsWhole, onto_whole, text_whole, texts_whole}
use Rattle.access_rights.proofs.Whole.{rights_whole}
use Rattle.gnap_model.specs.declared.objects.Ask.{Ask}
use Rattle.gnap_model.specs.declared.objects.Finish.{Finish}
use Rattle.gnap_model.specs.declared.objects.Modes.{Modes}
use Rattle.gnap_model.specs.declared.objects.GrantRequest.{GrantRequest}
use Rattle.gnap_objects.specs.Fits.{AskFits, RequestFits}
use Rattle.grant_values.specs.TokenRequests.{asked_flags, token_request_fields, token_request_data, token_requests_data}
use Rattle.grant_values.specs.Interactions.{hash_method_data, finish_fields, finish_data, starts_of, modes_fields, modes_data}
use Rattle.grant_values.specs.Grants.{subject_request_data, client_data, request_fields, request_data, request_text}

asked_flags_whole : (bearer : Bool) → IsWhole (asked_flags bearer)
asked_flags_whole true = refl
asked_flags_whole false = tt

token_request_whole : (ask : Ask) → AskFits ask → has_float (token_request_data ask) ≡ false
unfolding token_request_data
token_request_whole ask fits = onto_whole no_members (token_request_fields ask) refl
    (rights_whole ask.rights fits.1, (asked_flags_whole ask.bearer, (text_whole ask.label, tt)))

each_whole : (asks : List Ask) → AllByRecursion AskFits asks → items_have_float (items (map token_request_data asks)) ≡ false
each_whole [] fits = refl
each_whole (ask ∷ asks) fits = rw (token_request_whole ask fits.0, each_whole asks fits.1)

token_requests_whole : (single : Bool) (asks : List Ask) → AllByRecursion AskFits asks → IsWhole (token_requests_data single asks)
token_requests_whole single [] fits = tt
token_requests_whole true (ask ∷ []) fits = token_request_whole ask fits.0
token_requests_whole true (ask ∷ other ∷ asks) fits = each_whole (ask ∷ other ∷ asks) fits
token_requests_whole false (ask ∷ asks) fits = each_whole (ask ∷ asks) fits

subject_whole : (subject : Bool) → IsWhole (subject_request_data subject)
subject_whole true = refl
subject_whole false = tt

client_whole : (by_object : Bool) (client : Option (List ℕ)) → IsWhole (option_map (client_data by_object) client)
client_whole by_object None = tt
client_whole true (Some id) = refl
client_whole false (Some id) = refl

hash_method_whole : (long : Bool) → IsWhole (hash_method_data long)
hash_method_whole true = refl
hash_method_whole false = tt

finish_whole : (finish : Option Finish) → IsWhole (option_map finish_data finish)
unfolding finish_data
finish_whole None = tt
finish_whole (Some finish) = onto_whole no_members (finish_fields finish) refl (hash_method_whole finish.long, (refl, (refl, (refl, tt))))

modes_whole : (modes : Option Modes) → IsWhole (option_map modes_data modes)
unfolding modes_data
modes_whole None = tt
modes_whole (Some modes) = onto_whole no_members (modes_fields modes) refl (finish_whole modes.finish, (texts_whole (Some (starts_of modes)), tt))

pub request_whole : (existing : Option (List ℕ)) (request : GrantRequest) → RequestFits request → has_float (request_data existing request) ≡ false
unfolding request_data
request_whole existing request fits = onto_whole no_members (request_fields existing request) refl (
  token_requests_whole request.single request.asks fits.0,
  (
    client_whole request.by_object request.client,
    (
      text_whole existing,
      (modes_whole request.modes, (subject_whole request.subject, (text_whole request.user, tt))),
    ),
  ),
)

is_object : (existing : Option (List ℕ)) (request : GrantRequest) → is_some (as_object (request_data existing request)) ≡ true
unfolding request_data
is_object existing request = refl

pub text_is : (existing : Option (List ℕ)) (request : GrantRequest) (d : Data) (text : List ℕ) → RequestFits request → d ≡ request_data existing request
    → (has_float d ≡ false → text ≡ compact_text d) → text ≡ request_text existing request
text_is existing request d text fits shown printed = printed (ap has_float shown ∙ request_whole existing request fits) ∙ ap compact_text shown

pub text_read : (existing : Option (List ℕ)) (request : GrantRequest) (d : Data) (text : List ℕ) → RequestFits request → d ≡ request_data existing request
    → IsUtf8 text
    → (depth d ≤ max_depth → read text ≡ Some d) → depth (request_data existing request) ≤ max_depth → body_of text ≡ Ok (request_data existing request)
text_read existing request d text fits shown utf8 back shallow =
    body_is text (request_data existing request) (utf8, back (rw shown shallow) ∙ ap Some shown)
    ∙ rw (is_object existing request, request_whole existing request fits) refl
