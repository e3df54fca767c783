-- What a client holds, by the replies that it took.
use Rattle.std.specs.Prelude.{◌≡◌, ℕ, nat_lt, length, slice_set, Bool, true, false, List, [], ◌∷◌, fold, Option, Some, None, if◌then◌else◌}
use Rattle.gnap_model.specs.declared.calls.TokenOut.{TokenOut}
use Rattle.gnap_model.specs.declared.objects.Finish.{Finish}
use Rattle.gnap_model.specs.declared.objects.ErrorCode.{ErrorCode}
use Rattle.gnap_model.specs.declared.objects.ErrorCode.TheVariants as code
use Rattle.reply_readers.specs.declared.grant_reply.GrantReply.{GrantReply}
use Rattle.reply_readers.specs.declared.grant_reply.GrantReply.TheVariants as replies
use Rattle.gnap_client.specs.declared.config.ClientConfig.{ClientConfig}
use Rattle.gnap_client.specs.declared.client.State.{State}
use Rattle.gnap_client.specs.declared.client.State.TheVariants as states
use Rattle.gnap_client.specs.declared.client.Asked.{Asked}
use Rattle.gnap_client.specs.declared.client.Asked.TheVariants as asks
use Rattle.gnap_client.specs.declared.client.Received.{Received}
use Rattle.gnap_client.specs.declared.client.ReadReply.{ReadReply}
use Rattle.gnap_client.specs.declared.client.ReadReply.TheVariants.{Given, Resource}
use Rattle.gnap_client.specs.declared.client.Client.{Client}

abbrev pub nothing_received : Received
nothing_received = record { state = states.Fresh; door = None; tokens = []; interaction = None; subject = None; finish = None }

-- how the client wanted to be told of the end of the interaction that it asked for
abbrev pub finish_of : Asked → Option Finish
finish_of (asks.Grant finish) = finish
finish_of asks.Continuation = None
finish_of asks.Cancellation = None
finish_of (asks.Rotation token) = None
finish_of asks.Revocation = None
finish_of asks.Resource = None

-- the tokens with this one at a place, where there is one
abbrev pub replaced : List TokenOut → ℕ → TokenOut → List TokenOut
replaced ts i new = if nat_lt i (length ts) then slice_set ts i new else ts

-- the token that the request named has a successor
abbrev pub rotated : Asked → List TokenOut → TokenOut → List TokenOut
rotated (asks.Rotation i) ts new = replaced ts i new
rotated _ ts new = ts

-- the grant is over once its cancellation is done
abbrev pub state_done : Asked → State → State
state_done asks.Cancellation state = states.Ended
state_done _ state = state

-- a refusal that says that the grant is over
abbrev pub is_end : ErrorCode → Bool
is_end code.InvalidContinuation = true
is_end code.UserDenied = true
is_end code.UnknownUser = true
is_end code.TooManyAttempts = true
is_end _ = false

-- what is held after a reply of the authorization server
unfoldable pub after_reply : Asked → GrantReply → Received → Received
after_reply asked (replies.Granted door tokens subject) received =
    record received { state = states.Approved; door = Some door; tokens = tokens; interaction = None; subject = subject }
after_reply asked (replies.Pending door interaction) received =
    record received { state = states.Pending; door = Some door; tokens = []; interaction = Some interaction; finish = finish_of asked }
after_reply asked (replies.Continuing door) received = record received { door = Some door }
after_reply asked (replies.Rotated token) received = record received { tokens = rotated asked received.tokens token }
after_reply asked replies.Done received = record received { state = state_done asked received.state }
after_reply asked (replies.Refused c) received = if is_end c then record received { state = states.Ended } else received

-- a resource server's reply hands nothing out
abbrev pub after_read : Received → Asked × ReadReply → Received
after_read received (asked, Given reply) = after_reply asked reply received
after_read received (asked, Resource status body) = received

-- what is held after these replies, each with the request that it answered
abbrev pub received_after : List (Asked × ReadReply) → Received
received_after taken = fold after_read nothing_received taken

-- the client of this configuration has taken these replies
pub record ClientFits (config : ClientConfig) (taken : List (Asked × ReadReply)) (client : Client) : Type 0 where
  pub config_is : client.config ≡ config
  pub received_is : client.received ≡ received_after taken
