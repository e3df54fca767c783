-- What a message is to a machine, and which replies are said.
use Rattle.std.specs.Prelude.{◌≢◌, ℕ, Bool, List, ◌∷◌, ◌++◌}
use Rattle.histories.specs.declared.entry.Entry.{Entry}
use Rattle.histories.specs.History.{Law, Legal}
use Rattle.histories.specs.Turns.{Face}
use Rattle.serving.specs.declared.message_step.MessageStep.{MessageStep}
use Rattle.serving.specs.declared.message_step.MessageStep.TheVariants.{Say, Ask}

-- This is said to the message, or it asks this call, whatever the words; and the call may be made.
abbrev pub IsStepOf : {Message Rules Call Reply Note Response : Type 0} → Law Rules Call Reply Note → Face Message Rules Call Reply → (Response → List ℕ)
    → Rules → Bool → Message → ℕ → MessageStep Response Call → Type 0
IsStepOf law face text rules last m moment (Say response) = face.says rules last m moment (text response)
IsStepOf law face text rules last m moment (Ask call) = ((draw : List ℕ) → face.asks rules m moment draw call) × law.fits call × (call ≢ law.lapse)

-- each reply of a legal history can be said, whatever the rules are
abbrev pub SaysAllReplies : {Rules Call Reply Note : Type 0} → Law Rules Call Reply Note → (Reply → Type 0) → Type 0
SaysAllReplies {Rules} {Call} {Reply} {Note} law can_say = (rules : Rules) (before : List (Entry Call Reply Note)) (e : Entry Call Reply Note)
    (after : List (Entry Call Reply Note)) → Legal law rules (before ++ e ∷ after) → can_say e.reply
