-- How the machine of sets looks to HTTP requests.
use Rattle.std.specs.Prelude.{◌≡◌, ℕ, Bool, List}
use Rattle.histories.specs.Turns.{Face}
use Rattle.bytes_and_lists.specs.declared.message.Message.{Message}
use Rattle.http_edge.specs.Replies.{reply_bytes, busy_reply}
use Rattle.gnap_model.specs.declared.objects.Setup.{Setup}
use Rattle.as_edge.specs.DirectReplies.{http_reply}
use Rattle.resource_sets.specs.declared.sets.SetCall.{SetCall}
use Rattle.resource_sets.specs.declared.sets.SetReply.{SetReply}
use Rattle.rs_facing.specs.declared.set_requests.SetAnswer.{SetAnswer}
use Rattle.rs_facing.specs.declared.set_requests.SetStep.TheVariants.{Direct, Ask}
use Rattle.rs_facing.specs.SetRequests.{set_call}
use Rattle.rs_facing.specs.SetReplies.{answer_reply, set_response}

-- the request is answered without a call, by these bytes
abbrev pub IsSetAnsweredBy : Setup → Bool → Message → ℕ → List ℕ → Type 0
IsSetAnsweredBy setup last m moment bytes = (answer : SetAnswer) × (set_call setup m moment ≡ Direct answer) × (bytes ≡ reply_bytes (answer_reply last answer))

-- The words that are drawn don't change what a request asks. Where memory ran out it is answered by 503.
abbrev pub set_face : Face Message Setup SetCall SetReply
set_face = record {
  says = IsSetAnsweredBy;
  asks = λ setup m moment draw call. set_call setup m moment ≡ Ask call;
  prints = λ setup last reply. reply_bytes (http_reply last (set_response reply));
  busy = reply_bytes busy_reply;
}
