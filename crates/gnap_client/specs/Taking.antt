-- What a client makes of bytes that came as a reply.
use Rattle.std.specs.Prelude.{◌≡◌, ℕ, List, Option, Some, None, option_map, Result, Ok, Err}
use Rattle.http_edge.specs.ReadReplies.{IsHttpReply}
use Rattle.reply_readers.specs.declared.grant_reply.GrantReply.{GrantReply}
use Rattle.reply_readers.specs.declared.grant_reply.GrantReply.TheVariants as replies
use Rattle.reply_readers.specs.declared.grant_reply.ReplyKind.{ReplyKind}
use Rattle.reply_readers.specs.declared.grant_reply.ReplyKind.TheVariants as kinds
use Rattle.reply_readers.specs.Grants.{grant_reply}
use Rattle.gnap_client.specs.declared.client.Asked.{Asked}
use Rattle.gnap_client.specs.declared.client.Asked.TheVariants as asks
use Rattle.gnap_client.specs.declared.client.Took.{Took}
use Rattle.gnap_client.specs.declared.client.Took.TheVariants as tooks
use Rattle.gnap_client.specs.declared.client.ClientFault.{ClientFault}
use Rattle.gnap_client.specs.declared.client.ClientFault.TheVariants as faults
use Rattle.gnap_client.specs.declared.client.Client.{Client}
use Rattle.gnap_client.specs.declared.client.ReadReply.{ReadReply}
use Rattle.gnap_client.specs.declared.client.ReadReply.TheVariants.{Given, Resource}
use Rattle.gnap_client.specs.Received.{after_read}

-- which replies a request may get from the authorization server; none where it went to a resource server
abbrev pub reply_kind : Asked → Option ReplyKind
reply_kind (asks.Grant finish) = Some kinds.Asking
reply_kind asks.Continuation = Some kinds.Continuing
reply_kind asks.Cancellation = Some kinds.Ending
reply_kind (asks.Rotation token) = Some kinds.Rotating
reply_kind asks.Revocation = Some kinds.Ending
reply_kind asks.Resource = None

abbrev pub read_by : Option ReplyKind → ℕ → List ℕ → Option ReadReply
read_by None status body = Some (Resource status body)
read_by (Some kind) status body = option_map Given (grant_reply kind status body)

-- the bytes are a reply to the request, which says this
pub record Reads (asked : Asked) (bytes : List ℕ) (reading : ReadReply) : Type 0 where
  pub status : ℕ
  pub body : List ℕ
  pub reply : IsHttpReply bytes status body
  pub says : read_by (reply_kind asked) status body ≡ Some reading

-- the bytes are no reply to the request
abbrev pub ReadsNone : Asked → List ℕ → Type 0
ReadsNone asked bytes = (reading : ReadReply) → ¬ (Reads asked bytes reading)

-- what the bytes are to the request: a reply that says something, or none
abbrev pub Says : Asked → List ℕ → Option ReadReply → Type 0
Says asked bytes (Some reading) = Reads asked bytes reading
Says asked bytes None = ReadsNone asked bytes

-- what the bytes are to the outstanding request
abbrev pub SaysNext : Client → List ℕ → Result (Option ReadReply) ClientFault → Type 0
SaysNext client bytes (Ok says) = (asked : Asked) × (client.asked ≡ Some asked) × Says asked bytes says
SaysNext client bytes (Err (faults.WrongState state)) = (client.asked ≡ None) × (state ≡ client.received.state)
SaysNext client bytes (Err faults.OutOfMemory) = Unit {0}
SaysNext client bytes (Err _) = ⊥

-- the answer to a reply that was taken
abbrev pub took_of : ReadReply → Result Took ClientFault
took_of (Given (replies.Granted door tokens subject)) = Ok tooks.Granted
took_of (Given (replies.Pending door interaction)) = Ok tooks.Pending
took_of (Given (replies.Continuing door)) = Ok tooks.Continuing
took_of (Given (replies.Rotated token)) = Ok tooks.Rotated
took_of (Given replies.Done) = Ok tooks.Done
took_of (Given (replies.Refused code)) = Err (faults.Refused code)
took_of (Resource status body) = Ok (tooks.Resource status body)

-- The reply of the outstanding request was taken: nothing is outstanding any more.
pub record Takes (old : Client) (bytes : List ℕ) (new : Client) (result : Result Took ClientFault) : Type 0 where
  pub asked : Asked
  pub reading : ReadReply
  pub outstanding : old.asked ≡ Some asked
  pub reads : Reads asked bytes reading
  pub answer : result ≡ took_of reading
  pub leaves : new ≡ record old { received = after_read old.received (asked, reading); asked = None }

-- The bytes are no reply to the request, which stays outstanding.
pub record Leaves (old : Client) (bytes : List ℕ) (new : Client) : Type 0 where
  pub asked : Asked
  pub outstanding : old.asked ≡ Some asked
  pub none : ReadsNone asked bytes
  pub same : new ≡ old

-- what a client made of the bytes, by its answer
abbrev pub HasTaken : Client → List ℕ → Client → Result Took ClientFault → Type 0
HasTaken old bytes new (Ok took) = Takes old bytes new (Ok took)
HasTaken old bytes new (Err (faults.Refused code)) = Takes old bytes new (Err (faults.Refused code))
HasTaken old bytes new (Err faults.NotInGrammar) = Leaves old bytes new
HasTaken old bytes new (Err (faults.WrongState state)) = (old.asked ≡ None) × (state ≡ old.received.state) × (new ≡ old)
HasTaken old bytes new (Err faults.OutOfMemory) = new ≡ old
HasTaken old bytes new (Err (faults.HashDiffers wanted found)) = ⊥
HasTaken old bytes new (Err (faults.NoToken held)) = ⊥
HasTaken old bytes new (Err faults.LinkFault) = ⊥
