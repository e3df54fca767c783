-- How the grant machine looks to HTTP requests.
use Rattle.std.specs.Prelude.{◌≡◌, ℕ, Bool, List}
use Rattle.histories.specs.Turns.{Face}
use Rattle.bytes_and_lists.specs.declared.message.Message.{Message}
use Rattle.http_edge.specs.Replies.{reply_bytes, busy_reply}
use Rattle.gnap_model.specs.declared.objects.Setup.{Setup}
use Rattle.gnap_model.specs.declared.calls.Reply.{Reply}
use Rattle.gnap_replies.specs.Responses.{response_of}
use Rattle.signed_calls.specs.declared.signed.Signed.{Signed}
use Rattle.as_requests.specs.declared.desk_calls.DirectAnswer.{DirectAnswer}
use Rattle.as_requests.specs.declared.desk_calls.RequestStep.TheVariants.{Direct, Ask}
use Rattle.as_requests.specs.DeskCalls.{desk_call}
use Rattle.as_edge.specs.DirectReplies.{http_reply, direct_reply}

-- the request is answered without a call, by these bytes
abbrev pub IsAnsweredBy : Setup → Bool → Message → ℕ → List ℕ → Type 0
IsAnsweredBy setup last m moment bytes = (answer : DirectAnswer) × (desk_call setup m moment ≡ Direct answer)
    × (bytes ≡ reply_bytes (direct_reply setup last answer))

-- The words that are drawn don't change what a request asks. Where memory ran out it is answered by 503.
abbrev pub edge_face : Face Message Setup Signed Reply
edge_face = record {
  says = IsAnsweredBy;
  asks = λ setup m moment draw call. desk_call setup m moment ≡ Ask call;
  prints = λ setup last reply. reply_bytes (http_reply last (response_of setup reply));
  busy = reply_bytes busy_reply;
}
