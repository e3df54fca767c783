-- The replies of the server of resource sets (RFC 9767, section 3.4).
use Rattle.std.specs.Prelude.{ℕ, Bool, List, [], ◌∷◌, Option, Some, None, codes}
use Rattle.serde_json.specs.Data.{Data, string}
use Rattle.http_edge.specs.declared.reply.HttpReply.{HttpReply}
use Rattle.http_edge.specs.declared.reply.Extra.TheVariants.{Allow}
use Rattle.http_edge.specs.Replies.{plain_reply}
use Rattle.access_rights.specs.Printing.{rights_data}
use Rattle.gnap_model.specs.Common.{Text}
use Rattle.gnap_model.specs.declared.rights.Right.{Right}
use Rattle.gnap_replies.specs.Responses.{Response, response, empty_response, error_response}
use Rattle.as_edge.specs.DirectReplies.{http_reply}
use Rattle.resource_sets.specs.declared.sets.SetReply.{SetReply}
use Rattle.resource_sets.specs.declared.sets.SetReply.TheVariants.{Registered, Resolved, Error, Lapsed}
use Rattle.rs_facing.specs.declared.set_requests.SetAnswer.{SetAnswer}
use Rattle.rs_facing.specs.declared.set_requests.SetAnswer.TheVariants as answer

-- the reference of a set that was registered
abbrev pub registered_fields : Text → List (List ℕ × Option Data)
registered_fields reference = (codes "resource_reference", Some (string reference)) ∷ []

-- what a reference means: the rights in the order in which they were registered, and the server
abbrev pub resolved_fields : Text → List Right → List (List ℕ × Option Data)
resolved_fields server rights = (codes "access", Some (rights_data rights)) ∷ (codes "resource_server", Some (string server)) ∷ []

abbrev pub set_response : SetReply → Response
set_response (Registered reference) = response 200 (registered_fields reference)
set_response (Resolved server rights) = response 200 (resolved_fields server rights)
set_response (Error code) = error_response code
set_response Lapsed = empty_response 503

-- what is said to a request that asks no call
abbrev pub answer_reply : Bool → SetAnswer → HttpReply
answer_reply last answer.NotFound = plain_reply 404 None last
answer_reply last answer.NotAllowed = record { status = 405; extra = Allow (codes "POST"); body = None; last = last }
answer_reply last (answer.Error code) = http_reply last (error_response code)
