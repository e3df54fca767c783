-- What an entry draws on, and what comes of its call.
use Rattle.std.specs.Prelude.{◌≡◌, List, reverse}
use Rattle.gnap_model.specs.declared.notes.Note.{Note}
use Rattle.gnap_model.specs.Actions.{Supply, Outcome}
use Rattle.gnap_model.specs.Answer.{supply_of}
use Rattle.gnap_history.specs.declared.drawing.Drawing.{Drawing}
use Rattle.gnap_history.specs.declared.drawing.NotedReply.{NotedReply}

-- the notes so far, the newest first
abbrev pub trail : Drawing → List Note
trail drawing = reverse drawing.notes.now

-- in the words of the definitions
abbrev pub supply : Drawing → Supply
supply drawing = supply_of (trail drawing) drawing.moment drawing.words.now

-- the reply and the notes are those
abbrev pub IsAnswer : Outcome → NotedReply → Type 0
IsAnswer outcome answered = (answered.reply ≡ outcome.reply) × (answered.notes ≡ outcome.notes)
