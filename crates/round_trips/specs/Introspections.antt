-- What a resource server reads of the replies to its introspections (RFC 9767, section 3.3).
use Rattle.std.specs.Prelude.{◌≡◌, ℕ, Bool, List, Option, Some, None, Ok, if◌then◌else◌}
use Rattle.serde_json.specs.Data.{Data}
use Rattle.access_rights.specs.Reading.{rights_of}
use Rattle.gnap_model.specs.declared.rights.Right.{Right}
use Rattle.gnap_model.specs.declared.objects.Setup.{Setup}
use Rattle.gnap_model.specs.declared.calls.Reply.{Reply}
use Rattle.gnap_model.specs.declared.calls.Reply.TheVariants as reply
use Rattle.gnap_objects.specs.CallsFit.{RightsFit}
use Rattle.gnap_replies.specs.Responses.{response_of}
use Rattle.reply_readers.specs.declared.judgement.Judgement.{Judgement}
use Rattle.reply_readers.specs.declared.judgement.Judgement.TheVariants as judged
use Rattle.reply_readers.specs.Introspections.{judgement}
use Rattle.round_trips.specs.GrantReplies.{IsTextOf}

-- the key to which a token is bound
abbrev pub key_told : Bool → List ℕ → Option (List ℕ)
key_told bearer instance = if bearer then None else Some instance

-- what a reply says of a token; nothing where it is no reply to an introspection
abbrev pub judged_by : Reply → Option Judgement
judged_by (reply.Active access iat exp instance bearer) = Some (judged.Active access (key_told bearer instance) exp)
judged_by reply.Inactive = Some judged.Inactive
judged_by _ = None

-- rights that were read of some JSON, and can be shown
pub record AreRead (access : List Right) : Type 0 where
  pub fits : RightsFit access
  pub json : Data
  pub read : rights_of json ≡ Ok access

abbrev pub IsVerdict : Reply → Type 0
IsVerdict (reply.Active access iat exp instance bearer) = AreRead access
IsVerdict reply.Inactive = Unit {0}
IsVerdict _ = ⊥

-- Of the object that is printed for a reply to an introspection, a resource server reads just what it says of the token, whatever the text of the object.
abbrev pub IntrospectionsReadBack : Type 0
IntrospectionsReadBack = (setup : Setup) (r : Reply) (text : List ℕ) → IsVerdict r → IsTextOf (response_of setup r).body text
    → judgement (response_of setup r).status text ≡ judged_by r
