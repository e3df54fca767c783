-- What a client reads of the replies that the authorization server prints for it (RFC 9635, sections 3, 5 and 6).
use Rattle.std.specs.Prelude.{◌≡◌, ◌⊎◌, ℕ, ◌||◌, Bool, true, false, List, [], ◌∷◌, Option, Some, None, Ok, is_some, if◌then◌else◌}
use Rattle.std.specs.List.{AllByRecursion}
use Rattle.serde_json.specs.Data.{Data}
use Rattle.json_objects.specs.Bodies.{body_of}
use Rattle.access_rights.specs.Reading.{rights_of}
use Rattle.gnap_model.specs.declared.objects.Modes.{Modes}
use Rattle.gnap_model.specs.declared.objects.Setup.{Setup}
use Rattle.gnap_model.specs.declared.calls.TokenOut.{TokenOut}
use Rattle.gnap_model.specs.declared.calls.Reply.{Reply}
use Rattle.gnap_model.specs.declared.calls.Reply.TheVariants as reply
use Rattle.gnap_objects.specs.CallsFit.{RightsFit}
use Rattle.gnap_replies.specs.Endpoints.{interaction_page, code_page}
use Rattle.gnap_replies.specs.Responses.{response_of}
use Rattle.reply_readers.specs.declared.grant_reply.Interaction.{Interaction}
use Rattle.reply_readers.specs.declared.grant_reply.GrantReply.{GrantReply}
use Rattle.reply_readers.specs.declared.grant_reply.GrantReply.TheVariants as told
use Rattle.reply_readers.specs.declared.grant_reply.ReplyKind.{ReplyKind}
use Rattle.reply_readers.specs.declared.grant_reply.ReplyKind.TheVariants as kinds
use Rattle.reply_readers.specs.Members.{is_value, is_drawn}
use Rattle.reply_readers.specs.Grants.{grant_reply}

-- ---- what a client is told

abbrev pub where_asked : Bool → List ℕ → Option (List ℕ)
where_asked asked text = if asked then Some text else None

-- each way to interact that was asked for, where the user is sent for it
abbrev pub interaction_told : List ℕ → Modes → List ℕ → List ℕ → List ℕ → ℕ → Interaction
interaction_told front modes handle code nonce expires_in = record {
  redirect = where_asked modes.redirect (interaction_page front handle);
  user_code = where_asked (modes.user_code || modes.user_code_uri) code;
  user_code_uri = where_asked modes.user_code_uri (code_page front);
  nonce = where_asked (is_some modes.finish) nonce;
  expires_in = expires_in;
}

-- the values of a reply to a client; none of a reply to somebody else
abbrev pub told_by : List ℕ → Reply → Option GrantReply
told_by front (reply.Granted door tokens single subject instance) = Some (told.Granted door tokens subject)
told_by front (reply.Pending door modes handle code nonce expires_in instance) =
    Some (told.Pending door (interaction_told front modes handle code nonce expires_in))
told_by front (reply.Continuing door) = Some (told.Continuing door)
told_by front (reply.Rotated token) = Some (told.Rotated token)
told_by front reply.Done = Some told.Done
told_by front (reply.Error code) = Some (told.Refused code)
told_by front _ = None

-- ---- which replies

abbrev pub has_some : List TokenOut → Bool
has_some [] = false
has_some (token ∷ tokens) = true

-- Which replies a request of a kind may get. A continuation that is granted no token, and told no user, looks like one at which nothing is new.
abbrev pub IsReplyTo : Reply → ReplyKind → Type 0
IsReplyTo (reply.Granted door tokens single subject instance) kind =
    ((kind ≡ kinds.Asking) × (has_some tokens ≡ true)) ⊎ ((kind ≡ kinds.Continuing) × ((has_some tokens || is_some subject) ≡ true))
IsReplyTo (reply.Pending door modes handle code nonce expires_in instance) kind = kind ≡ kinds.Asking
IsReplyTo (reply.Continuing door) kind = kind ≡ kinds.Continuing
IsReplyTo (reply.Rotated token) kind = kind ≡ kinds.Rotating
IsReplyTo reply.Done kind = kind ≡ kinds.Ending
IsReplyTo (reply.Error code) kind = Unit {0}
IsReplyTo _ kind = ⊥

-- a token with values as they are drawn, and with rights that were read of some JSON and can be shown
pub record IsHandedOut (token : TokenOut) : Type 0 where
  pub value : is_drawn token.value ≡ true
  pub manage : is_drawn token.manage ≡ true
  pub fits : RightsFit token.rights
  pub access : Data
  pub read : rights_of access ≡ Ok token.rights

-- one token at most, where it was asked for outside an array
abbrev pub AreAsked : Bool → List TokenOut → Type 0
AreAsked false tokens = Unit {0}
AreAsked true [] = Unit {0}
AreAsked true (token ∷ []) = Unit {0}
AreAsked true (token ∷ other ∷ tokens) = ⊥

-- what a reply hands out has the form of drawn values
abbrev pub HandsOut : Reply → Type 0
HandsOut (reply.Granted door tokens single subject instance) = (is_value door ≡ true) × AllByRecursion IsHandedOut tokens × AreAsked single tokens
HandsOut (reply.Pending door modes handle code nonce expires_in instance) = is_value door ≡ true
HandsOut (reply.Continuing door) = is_value door ≡ true
HandsOut (reply.Rotated token) = IsHandedOut token
HandsOut _ = Unit {0}

-- the text of a body that is read as this object; without one nothing of the text is looked at
abbrev pub IsTextOf : Option Data → List ℕ → Type 0
IsTextOf None text = Unit {0}
IsTextOf (Some d) text = body_of text ≡ Ok d

-- Of the object that is printed for a reply, at its status, a client reads the reply's values, whatever the text of the object.
abbrev pub GrantRepliesReadBack : Type 0
GrantRepliesReadBack = (setup : Setup) (kind : ReplyKind) (r : Reply) (text : List ℕ) → IsReplyTo r kind → HandsOut r
    → IsTextOf (response_of setup r).body text → grant_reply kind (response_of setup r).status text ≡ told_by setup.front r
