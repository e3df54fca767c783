-- Replies that were printed for a client are read again.
use Rattle.std.proofs.Common.{◌≡◌, inl, inr, ◌∙◌, ℕ, List, [], ◌∷◌, Bool, true, false, Option, Some, None, option_map, Ok, codes, refl}
use Rattle.std.specs.Prelude.{◌||◌, is_some}
use Rattle.std.specs.List.{AllByRecursion}
use Rattle.serde_json.specs.Data.{Data}
use Rattle.serde_json.specs.Find.{get}
use Rattle.json_objects.specs.Bodies.{body_of}
use Rattle.json_objects.specs.Objects.{object_of}
use Rattle.gnap_model.specs.Codes.{error_status}
use Rattle.gnap_model.specs.declared.objects.ErrorCode.{ErrorCode}
use Rattle.gnap_model.specs.declared.objects.ErrorCode.TheVariants as code
use Rattle.gnap_model.specs.declared.objects.Modes.{Modes}
use Rattle.gnap_model.specs.declared.calls.TokenOut.{TokenOut}
use Rattle.gnap_model.specs.declared.calls.Reply.TheVariants as reply
use Rattle.gnap_replies.specs.Errors.{error_fields}
use Rattle.gnap_replies.specs.Tokens.{token_data, tokens_data}
use Rattle.gnap_replies.specs.Grants.{interact_data, granted_fields, pending_fields, continuing_fields, rotated_fields}
use Rattle.gnap_replies.specs.Responses.{response_of}
use Rattle.grant_values.proofs.Readings.{or_none, found}
use Rattle.reply_readers.specs.declared.grant_reply.GrantReply.{GrantReply}
use Rattle.reply_readers.specs.declared.grant_reply.GrantReply.TheVariants as told
use Rattle.reply_readers.specs.declared.grant_reply.Interaction.{Interaction}
use Rattle.reply_readers.specs.declared.grant_reply.ReplyKind.{ReplyKind}
use Rattle.reply_readers.specs.declared.grant_reply.ReplyKind.TheVariants as kinds
use Rattle.reply_readers.specs.Members.{needed, optional_text, is_value}
use Rattle.reply_readers.specs.Grants.{token_of, tokens_of, continue_of, subject_of, interaction_of, granted_of, pending_of, continuing_of, rotated_of, has, given_of, code_named, refused_of, grant_reading, grant_reply}
use Rattle.round_trips.specs.GrantReplies.{interaction_told, has_some, IsHandedOut, AreAsked, GrantRepliesReadBack}
use Rattle.round_trips.proofs.MembersAgain.{needed_there, optional_there, token_again, tokens_there, continue_there, subject_there, interaction_again}

-- ---- a body at 200, and an error

given : (kind : ReplyKind) (text : List ℕ) (d : Data) (r : GrantReply) → body_of text ≡ Ok d → given_of kind d ≡ Ok r → grant_reply kind 200 text ≡ Some r
unfolding grant_reading
given kind text d r body read = rw (body, read) refl

refused : (kind : ReplyKind) (c : ErrorCode) (text : List ℕ) → body_of text ≡ Ok (object_of (error_fields c))
    → grant_reply kind (error_status c) text ≡ Some (told.Refused c)
unfolding grant_reading refused_of code_named
refused kind code.InvalidRequest text body = rw body refl
refused kind code.InvalidClient text body = rw body refl
refused kind code.InvalidInteraction text body = rw body refl
refused kind code.InvalidFlag text body = rw body refl
refused kind code.InvalidRotation text body = rw body refl
refused kind code.KeyRotationNotSupported text body = rw body refl
refused kind code.InvalidContinuation text body = rw body refl
refused kind code.UserDenied text body = rw body refl
refused kind code.RequestDenied text body = rw body refl
refused kind code.UnknownUser text body = rw body refl
refused kind code.UnknownInteraction text body = rw body refl
refused kind code.TooFast text body = rw body refl
refused kind code.TooManyAttempts text body = rw body refl
refused kind code.InvalidResourceServer text body = rw body refl
refused kind code.InvalidAccess text body = rw body refl

-- ---- granted

granted_parts : (d : Data) (tokens : List TokenOut) (door : List ℕ) (instance subject : Option (List ℕ)) → tokens_of d ≡ Ok tokens → continue_of d ≡ Ok door
    → optional_text (codes "instance_id") d ≡ Ok instance → subject_of d ≡ Ok subject → granted_of d ≡ Ok (told.Granted door tokens subject)
unfolding granted_of
granted_parts d tokens door instance subject e0 e1 e2 e3 = rw (e0, e1, e2, e3) refl

granted_again : (base door : List ℕ) (tokens : List TokenOut) (single : Bool) (subject instance : Option (List ℕ)) → is_value door ≡ true
    → AllByRecursion IsHandedOut tokens → AreAsked single tokens
    → granted_of (object_of (granted_fields base door tokens single subject instance)) ≡ Ok (told.Granted door tokens subject)
granted_again base door tokens single subject instance value out asked =
    let fs = granted_fields base door tokens single subject instance in
    let e = object_of fs in
    granted_parts e tokens door instance subject
    (tokens_there base single tokens e out asked (found (codes "access_token") fs ∙ or_none _))
    (continue_there base door e (found (codes "continue") fs) value)
    (optional_there (codes "instance_id") e instance (found (codes "instance_id") fs ∙ or_none _))
    (subject_there e subject (found (codes "subject") fs ∙ or_none _))

has_tokens : (base : List ℕ) (single : Bool) (tokens : List TokenOut) (e : Data) → has_some tokens ≡ true
    → get (codes "access_token") e ≡ tokens_data base single tokens → has (codes "access_token") e ≡ true
has_tokens base single [] e some there = absurd cc
has_tokens base true (t ∷ ts) e some there = rw there refl
has_tokens base false (t ∷ ts) e some there = rw there refl

asking_granted : (d : Data) (r : GrantReply) → get (codes "interact") d ≡ None → has (codes "access_token") d ≡ true → granted_of d ≡ Ok r
    → given_of kinds.Asking d ≡ Ok r
asking_granted d r none some read = rw (none, some) read

granted_asking : (base door text : List ℕ) (tokens : List TokenOut) (single : Bool) (subject instance : Option (List ℕ)) → has_some tokens ≡ true
    → is_value door ≡ true → AllByRecursion IsHandedOut tokens → AreAsked single tokens
    → body_of text ≡ Ok (object_of (granted_fields base door tokens single subject instance))
    → grant_reply kinds.Asking 200 text ≡ Some (told.Granted door tokens subject)
granted_asking base door text tokens single subject instance some value out asked body =
    let fs = granted_fields base door tokens single subject instance in
    let e = object_of fs in
    given kinds.Asking text e (told.Granted door tokens subject) body
    (asking_granted e (told.Granted door tokens subject) (found (codes "interact") fs)
    (has_tokens base single tokens e some (found (codes "access_token") fs ∙ or_none _))
    (granted_again base door tokens single subject instance value out asked))

continuing_granted : (d : Data) (r : GrantReply) → (has (codes "access_token") d || has (codes "subject") d) ≡ true → granted_of d ≡ Ok r
    → given_of kinds.Continuing d ≡ Ok r
continuing_granted d r some read = rw some read

or_true : (b : Bool) → (b || true) ≡ true
or_true true = refl
or_true false = refl

has_either : (base : List ℕ) (single : Bool) (tokens : List TokenOut) (subject : Option (List ℕ)) (e : Data) → (has_some tokens || is_some subject) ≡ true
    → get (codes "access_token") e ≡ tokens_data base single tokens → is_some (get (codes "subject") e) ≡ is_some subject
    → (has (codes "access_token") e || has (codes "subject") e) ≡ true
has_either base single (t ∷ ts) subject e some there named = rw (has_tokens base single (t ∷ ts) e refl there) refl
has_either base single [] subject e some there named = rw (named, some) (or_true (is_some (get (codes "access_token") e)))

is_named : (f : List ℕ → Data) (o : Option Data) (subject : Option (List ℕ)) → o ≡ option_map f subject → is_some o ≡ is_some subject
is_named f o None there = rw there refl
is_named f o (Some id) there = rw there refl

granted_continuing : (base door text : List ℕ) (tokens : List TokenOut) (single : Bool) (subject instance : Option (List ℕ))
    → (has_some tokens || is_some subject) ≡ true → is_value door ≡ true → AllByRecursion IsHandedOut tokens → AreAsked single tokens
    → body_of text ≡ Ok (object_of (granted_fields base door tokens single subject instance))
    → grant_reply kinds.Continuing 200 text ≡ Some (told.Granted door tokens subject)
granted_continuing base door text tokens single subject instance some value out asked body =
    let fs = granted_fields base door tokens single subject instance in
    let e = object_of fs in
    given kinds.Continuing text e (told.Granted door tokens subject) body
    (continuing_granted e (told.Granted door tokens subject)
    (has_either base single tokens subject e some (found (codes "access_token") fs ∙ or_none _)
    (is_named _ (get (codes "subject") e) subject (found (codes "subject") fs ∙ or_none _)))
    (granted_again base door tokens single subject instance value out asked))

-- ---- pending

pending_parts : (d interact : Data) (door : List ℕ) (instance : Option (List ℕ)) (interaction : Interaction) → continue_of d ≡ Ok door
    → optional_text (codes "instance_id") d ≡ Ok instance → needed (codes "interact") d ≡ Ok interact → interaction_of interact ≡ Ok interaction
    → pending_of d ≡ Ok (told.Pending door interaction)
unfolding pending_of
pending_parts d interact door instance interaction e0 e1 e2 e3 = rw (e0, e1, e2, e3) refl

asking_pending : (d interact : Data) (r : GrantReply) → get (codes "interact") d ≡ Some interact → pending_of d ≡ Ok r → given_of kinds.Asking d ≡ Ok r
asking_pending d interact r there read = rw there read

pending_asking : (base front door text : List ℕ) (modes : Modes) (handle c nonce : List ℕ) (n : ℕ) (instance : Option (List ℕ)) → is_value door ≡ true
    → body_of text ≡ Ok (object_of (pending_fields base door (interact_data front modes handle c nonce n) instance))
    → grant_reply kinds.Asking 200 text ≡ Some (told.Pending door (interaction_told front modes handle c nonce n))
pending_asking base front door text modes handle c nonce n instance value body =
    let interact = interact_data front modes handle c nonce n in
    let fs = pending_fields base door interact instance in
    let e = object_of fs in
    let r = told.Pending door (interaction_told front modes handle c nonce n) in
    given kinds.Asking text e r body
    (asking_pending e interact r (found (codes "interact") fs)
    (pending_parts e interact door instance (interaction_told front modes handle c nonce n)
    (continue_there base door e (found (codes "continue") fs) value)
    (optional_there (codes "instance_id") e instance (found (codes "instance_id") fs ∙ or_none _))
    (needed_there (codes "interact") e interact (found (codes "interact") fs))
    (interaction_again front modes handle c nonce n)))

-- ---- the others

continuing_only : (d : Data) (door : List ℕ) → get (codes "access_token") d ≡ None → get (codes "subject") d ≡ None → continue_of d ≡ Ok door
    → given_of kinds.Continuing d ≡ Ok (told.Continuing door)
unfolding continuing_of
continuing_only d door no_token no_user read = rw (no_token, no_user, read) refl

continuing_again : (base door text : List ℕ) → is_value door ≡ true → body_of text ≡ Ok (object_of (continuing_fields base door))
    → grant_reply kinds.Continuing 200 text ≡ Some (told.Continuing door)
continuing_again base door text value body =
    let fs = continuing_fields base door in
    let e = object_of fs in
    given kinds.Continuing text e (told.Continuing door) body
    (continuing_only e door (found (codes "access_token") fs) (found (codes "subject") fs) (continue_there base door e (found (codes "continue") fs) value))

rotated_parts : (d e : Data) (t : TokenOut) → needed (codes "access_token") d ≡ Ok e → token_of e ≡ Ok t → rotated_of d ≡ Ok (told.Rotated t)
unfolding rotated_of
rotated_parts d e t there read = rw (there, read) refl

rotated_again : (base text : List ℕ) (t : TokenOut) → IsHandedOut t → body_of text ≡ Ok (object_of (rotated_fields base t))
    → grant_reply kinds.Rotating 200 text ≡ Some (told.Rotated t)
rotated_again base text t out body =
    let fs = rotated_fields base t in
    let e = object_of fs in
    let there = needed_there (codes "access_token") e (token_data base t) (found (codes "access_token") fs) in
    given kinds.Rotating text e (told.Rotated t) body (rotated_parts e (token_data base t) t there (token_again base t out))

done_again : (text : List ℕ) → grant_reply kinds.Ending 204 text ≡ Some told.Done
unfolding grant_reading
done_again text = refl

pub grant_replies_read_back_law : GrantRepliesReadBack
unfolding response_of
grant_replies_read_back_law setup kind (reply.Granted door tokens single subject instance) text (inl asking) h body =
    rw asking.0 (granted_asking setup.base door text tokens single subject instance asking.1 h.0 h.1 h.2 body)
grant_replies_read_back_law setup kind (reply.Granted door tokens single subject instance) text (inr continuing) h body =
    rw continuing.0 (granted_continuing setup.base door text tokens single subject instance continuing.1 h.0 h.1 h.2 body)
grant_replies_read_back_law setup kind (reply.Pending door modes handle c nonce n instance) text is h body =
    rw is (pending_asking setup.base setup.front door text modes handle c nonce n instance h body)
grant_replies_read_back_law setup kind (reply.Continuing door) text is h body = rw is (continuing_again setup.base door text h body)
grant_replies_read_back_law setup kind (reply.Rotated token) text is h body = rw is (rotated_again setup.base text token h body)
grant_replies_read_back_law setup kind reply.Done text is h body = rw is (done_again text)
grant_replies_read_back_law setup kind (reply.Active access iat exp instance bearer) text is h body = absurd is
grant_replies_read_back_law setup kind reply.Inactive text is h body = absurd is
grant_replies_read_back_law setup kind (reply.Shown asks client n subject user) text is h body = absurd is
grant_replies_read_back_law setup kind (reply.Handle handle) text is h body = absurd is
grant_replies_read_back_law setup kind (reply.Decided finish) text is h body = absurd is
grant_replies_read_back_law setup kind (reply.Error c) text is h body = refused kind c text body
grant_replies_read_back_law setup kind reply.Lapsed text is h body = absurd is
