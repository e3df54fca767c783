-- Replies to grant requests, continuations and management calls, as a client reads them (RFC 9635, sections 3, 5 and 6).
use Rattle.std.specs.Prelude.{ℕ, ◌==◌, ◌||◌, Bool, List, [], ◌∷◌, Option, Some, None, Result, Ok, Err, is_some, if◌then◌else◌, codes}
use Rattle.std.specs.List.{find}
use Rattle.std.specs.Result.{result_ok}
use Rattle.std.specs.Str.{bytes_eq}
use Rattle.serde_json.specs.Data.{Data, Items, no_items, item}
use Rattle.serde_json.specs.Find.{get, as_array}
use Rattle.json_objects.specs.declared.body.BodyFault.{BodyFault}
use Rattle.json_objects.specs.Bodies.{body_of}
use Rattle.json_objects.specs.Reading.{◌>>=◌, each}
use Rattle.gnap_model.specs.declared.calls.TokenOut.{TokenOut}
use Rattle.gnap_model.specs.declared.objects.ErrorCode.{ErrorCode}
use Rattle.gnap_model.specs.declared.objects.ErrorCode.TheVariants as code
use Rattle.gnap_model.specs.Codes.{error_text, error_status}
use Rattle.reply_readers.specs.declared.members.FormFault.{FormFault}
use Rattle.reply_readers.specs.declared.members.FormFault.TheVariants as faults
use Rattle.reply_readers.specs.declared.grant_reply.Interaction.{Interaction}
use Rattle.reply_readers.specs.declared.grant_reply.GrantReply.{GrantReply}
use Rattle.reply_readers.specs.declared.grant_reply.GrantReply.TheVariants.{Granted, Pending, Continuing, Rotated, Done, Refused}
use Rattle.reply_readers.specs.declared.grant_reply.ReplyKind.{ReplyKind}
use Rattle.reply_readers.specs.declared.grant_reply.ReplyKind.TheVariants as kinds
use Rattle.reply_readers.specs.Members.{there, where_there, tested, needed, needed_text, needed_number, optional_text, is_value, needed_drawn, needed_rights, bearer_of}

-- ---- tokens

-- the value in `manage`
unfoldable pub manage_of : Data → Result (List ℕ) FormFault
manage_of d = do
  manage ← needed (codes "manage") d
  token ← needed (codes "access_token") manage
  uri ← needed_text (codes "uri") manage
  needed_drawn (codes "value") token

unfoldable pub token_of : Data → Result TokenOut FormFault
token_of d = do
  expires_in ← needed_number (codes "expires_in") d
  bearer ← bearer_of d
  label ← optional_text (codes "label") d
  manage ← manage_of d
  value ← needed_drawn (codes "value") d
  rights ← needed_rights (codes "access") d
  Ok (record { value = value; manage = manage; label = label; rights = rights; expires_in = expires_in; bearer = bearer })

abbrev pub some_tokens : List TokenOut → Result (List TokenOut) FormFault
some_tokens [] = Err faults.NotOfForm
some_tokens (t ∷ ts) = Ok (t ∷ ts)

-- an array of at least one token, or one token
abbrev pub tokens_by : Data → Option Items → Result (List TokenOut) FormFault
tokens_by d None = token_of d >>= λ t. Ok (t ∷ [])
tokens_by d (Some ds) = each token_of ds >>= some_tokens

unfoldable pub tokens_in : Data → Result (List TokenOut) FormFault
tokens_in d = tokens_by d (as_array d)

abbrev pub tokens_where : Option Data → Result (List TokenOut) FormFault
tokens_where None = Ok []
tokens_where (Some d) = tokens_in d

-- `access_token`, where it is there
unfoldable pub tokens_of : Data → Result (List TokenOut) FormFault
tokens_of d = tokens_where (get (codes "access_token") d)

-- ---- the other members

-- the value in `continue`
unfoldable pub continue_of : Data → Result (List ℕ) FormFault
continue_of d = do
  continue ← needed (codes "continue") d
  token ← needed (codes "access_token") continue
  uri ← needed_text (codes "uri") continue
  wait ← needed_number (codes "wait") continue
  value ← needed_text (codes "value") token
  tested is_value value

abbrev pub only_item : Items → Result Data FormFault
only_item no_items = Err faults.NotOfForm
only_item (item d no_items) = Ok d
only_item (item d (item e es)) = Err faults.NotOfForm

-- `{"sub_ids":[{"format":"opaque","id":I}]}`
unfoldable pub subject_in : Data → Result (List ℕ) FormFault
subject_in d = do
  sub_ids ← needed (codes "sub_ids") d
  items ← there (as_array sub_ids)
  sub_id ← only_item items
  format ← needed_text (codes "format") sub_id
  opaque ← tested (bytes_eq (codes "opaque")) format
  needed_text (codes "id") sub_id

-- `subject`, where it is there
unfoldable pub subject_of : Data → Result (Option (List ℕ)) FormFault
subject_of d = where_there subject_in (get (codes "subject") d)

-- a code, and where it is typed
unfoldable pub code_uri_in : Data → Result (List ℕ × List ℕ) FormFault
code_uri_in d = do
  code ← needed_text (codes "code") d
  uri ← needed_text (codes "uri") d
  Ok (code, uri)

abbrev pub code_of : Option (List ℕ) → Option (List ℕ × List ℕ) → Option (List ℕ)
code_of alone None = alone
code_of alone (Some both) = Some both.0

abbrev pub uri_of : Option (List ℕ × List ℕ) → Option (List ℕ)
uri_of None = None
uri_of (Some both) = Some both.1

-- what `interact` hands out
unfoldable pub interaction_of : Data → Result Interaction FormFault
interaction_of d = do
  expires_in ← needed_number (codes "expires_in") d
  nonce ← optional_text (codes "finish") d
  redirect ← optional_text (codes "redirect") d
  alone ← optional_text (codes "user_code") d
  both ← where_there code_uri_in (get (codes "user_code_uri") d)
  Ok (record { redirect = redirect; user_code = code_of alone both; user_code_uri = uri_of both; nonce = nonce; expires_in = expires_in })

-- ---- whole replies

unfoldable pub granted_of : Data → Result GrantReply FormFault
granted_of d = do
  door ← continue_of d
  instance ← optional_text (codes "instance_id") d
  subject ← subject_of d
  tokens ← tokens_of d
  Ok (Granted door tokens subject)

unfoldable pub pending_of : Data → Result GrantReply FormFault
pending_of d = do
  door ← continue_of d
  instance ← optional_text (codes "instance_id") d
  interact ← needed (codes "interact") d
  interaction ← interaction_of interact
  Ok (Pending door interaction)

unfoldable pub continuing_of : Data → Result GrantReply FormFault
continuing_of d = continue_of d >>= λ door. Ok (Continuing door)

unfoldable pub rotated_of : Data → Result GrantReply FormFault
rotated_of d = needed (codes "access_token") d >>= token_of >>= λ t. Ok (Rotated t)

abbrev pub has : List ℕ → Data → Bool
has name d = is_some (get name d)

-- a 200 by what the request may get; where a grant request isn't answered by an interaction, tokens have to be there
abbrev pub given_of : ReplyKind → Data → Result GrantReply FormFault
given_of kinds.Asking d =
    if has (codes "interact") d then pending_of d else (if has (codes "access_token") d then granted_of d else Err faults.NotOfForm)
given_of kinds.Continuing d =
    if has (codes "access_token") d || has (codes "subject") d then granted_of d else continuing_of d
given_of kinds.Rotating d = rotated_of d
given_of kinds.Ending d = Err faults.NotOfForm

abbrev pub error_codes : List ErrorCode
error_codes =
    code.InvalidRequest ∷ code.InvalidClient ∷ code.InvalidInteraction ∷ code.InvalidFlag ∷ code.InvalidRotation ∷ code.KeyRotationNotSupported
    ∷ code.InvalidContinuation ∷ code.UserDenied ∷ code.RequestDenied ∷ code.UnknownUser ∷ code.UnknownInteraction ∷ code.TooFast
    ∷ code.TooManyAttempts ∷ code.InvalidResourceServer ∷ code.InvalidAccess ∷ []

abbrev pub is_code : List ℕ → ErrorCode → Bool
is_code s c = bytes_eq s (error_text c)

-- the code that a text is
unfoldable pub code_named : List ℕ → Result ErrorCode FormFault
code_named s = there (find (is_code s) error_codes)

-- the code in `error`
abbrev pub code_in : Data → Result ErrorCode FormFault
code_in d = needed (codes "error") d >>= needed_text (codes "code") >>= code_named

abbrev pub at_status : ℕ → ErrorCode → Result GrantReply FormFault
at_status status c = if status == error_status c then Ok (Refused c) else Err faults.NotOfForm

-- an error, at its status
unfoldable pub refused_of : ℕ → Data → Result GrantReply FormFault
refused_of status d = code_in d >>= at_status status

abbrev pub object_in : Result Data BodyFault → Result Data FormFault
object_in (Ok d) = Ok d
object_in (Err fault) = Err faults.NotOfForm

-- a cancellation and a revocation are answered by a status alone
abbrev pub done_of : ReplyKind → Result GrantReply FormFault
done_of kinds.Ending = Ok Done
done_of kinds.Asking = Err faults.NotOfForm
done_of kinds.Continuing = Err faults.NotOfForm
done_of kinds.Rotating = Err faults.NotOfForm

unfoldable pub grant_reading : ReplyKind → ℕ → List ℕ → Result GrantReply FormFault
grant_reading kind status body =
    if status == 204 then done_of kind
    else object_in (body_of body) >>= λ d. if status == 200 then given_of kind d else refused_of status d

-- what a reply of this status and this body says, to a request that may get these replies
abbrev pub grant_reply : ReplyKind → ℕ → List ℕ → Option GrantReply
grant_reply kind status body = result_ok (grant_reading kind status body)
