-- What is said to a message.
use Rattle.std.specs.Prelude.{◌≡◌, ◌≢◌, ℕ, Bool, List}
use Rattle.outside.specs.Outside.{Told}
use Rattle.outside.specs.Gears.{GearState, with_draw}
use Rattle.histories.specs.Steps.{Enters, EntersLapse}
use Rattle.http_edge.specs.Replies.{reply_bytes, busy_reply}
use Rattle.gnap_model.specs.declared.objects.Setup.{Setup}
use Rattle.gnap_model.specs.declared.calls.Reply.{Reply}
use Rattle.gnap_replies.specs.Responses.{response_of}
use Rattle.signed_calls.specs.declared.signed.Signed.{Signed}
use Rattle.grant_machine.specs.Gnap.{GnapEntry, gnap}
use Rattle.as_edge.specs.DirectReplies.{http_reply}
use Rattle.serving.specs.MessageTurns.{HasWrittenText}
use Rattle.serving.specs.declared.ends.AfterTurn.{AfterTurn}
use Rattle.serving.specs.declared.ends.AfterTurn.TheVariants.{MoreMayCome, OutOfMemory}

-- The text was said; or memory ran out before that, and the fixed 503 was said.
pub data HasAnswered (text : List ℕ) (before after : Told) (faults faults_now : ℕ) (ended : AfterTurn) : Type 0 where
  said : HasWrittenText text before after faults faults_now ended → ended ≢ OutOfMemory → HasAnswered text before after faults faults_now ended
  starved : HasWrittenText (reply_bytes busy_reply) before after faults faults_now ended → ended ≢ MoreMayCome
      → HasAnswered text before after faults faults_now ended

-- A call was entered behind a history that a desk had seen, with words that its gear drew, and its reply was said; or memory ran out, so that a lapse was
-- entered, and the fixed 503 was said.
pub data HasReplied (setup : Setup) (last : Bool) (rules : Setup) (number : ℕ) (h : List GnapEntry) (moment : ℕ) (call : Signed)
    (seen : List GnapEntry → Type 0) (gear gear_now : GearState) (before after : Told) (faults faults_now : ℕ) (ended : AfterTurn) : Type 0 where
  replied : (draw : List ℕ) → gear_now ≡ with_draw draw gear → (reply : Reply) → Enters gnap rules number h moment draw call reply seen
      → HasAnswered (reply_bytes (http_reply last (response_of setup reply))) before after faults faults_now ended
      → HasReplied setup last rules number h moment call seen gear gear_now before after faults faults_now ended
  unreplied : (draw : List ℕ) → gear_now ≡ with_draw draw gear → EntersLapse gnap rules number h moment draw seen
      → HasWrittenText (reply_bytes busy_reply) before after faults faults_now ended → ended ≢ MoreMayCome
      → HasReplied setup last rules number h moment call seen gear gear_now before after faults faults_now ended
