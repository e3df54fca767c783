-- A history of the machine with marks as one of the machine without: in place of each entry whose mark is refused stands a lapse. A history has its
-- oldest entry first; a past has its newest first.
use Rattle.std.specs.Prelude.{ℕ, ◌≡◌, Bool, List, [], ◌∷◌, length, map, reverse, if◌then◌else◌}
use Rattle.histories.specs.History.{Legal, notes_of, now, by_notes}
use Rattle.gnap_model.specs.declared.objects.Setup.{Setup}
use Rattle.gnap_model.specs.declared.calls.Call.{Call}
use Rattle.gnap_model.specs.declared.calls.Call.TheVariants.{Lapse}
use Rattle.gnap_model.specs.declared.calls.Reply.TheVariants.{Lapsed}
use Rattle.gnap_model.specs.Notes.{Event}
use Rattle.gnap_laws.specs.Refusals.{caller}
use Rattle.gnap_model.specs.Answer.{gnap_answer}
use Rattle.signed_calls.specs.Marks.{SignedEvent, refuses, plain_notes}

-- whether the entry's mark is refused after this history
abbrev pub is_refused_after : List SignedEvent → SignedEvent → Bool
is_refused_after history entry = refuses (notes_of history) (now history entry.moment) (caller entry.call.call) entry.call.mark

-- the same after a past
abbrev pub is_refused : List SignedEvent → SignedEvent → Bool
is_refused past entry = is_refused_after (reverse past) entry

-- An entry without its mark. A refused one only lets time go on; it has no notes.
abbrev pub plain_entry : Bool → SignedEvent → Event
plain_entry refused entry = record {
  number = entry.number;
  moment = entry.moment;
  draw = entry.draw;
  call = if refused then Lapse else entry.call.call;
  reply = if refused then Lapsed else entry.reply;
  notes = plain_notes entry.notes;
}

abbrev pub plain_past : List SignedEvent → List Event
plain_past [] = []
plain_past (entry ∷ past) = plain_entry (is_refused past entry) entry ∷ plain_past past

abbrev pub plain_history : List SignedEvent → List Event
plain_history history = reverse (plain_past (reverse history))

-- An entry without its mark, whether it was refused or not: its call and its reply are kept.
abbrev pub bare_entry : SignedEvent → Event
bare_entry entry = record {
  number = entry.number;
  moment = entry.moment;
  draw = entry.draw;
  call = entry.call.call;
  reply = entry.reply;
  notes = plain_notes entry.notes;
}

abbrev pub bare_past : List SignedEvent → List Event
bare_past past = map bare_entry past

-- The past without marks is legal, and tells of the same notes, moments and number of entries.
pub record IsPlain (fits : Call → Type 0) (rules : Setup) (past : List SignedEvent) : Type 0 where
  pub legal : Legal (by_notes gnap_answer fits Lapse) rules (reverse (plain_past past))
  pub notes : notes_of (reverse (plain_past past)) ≡ plain_notes (notes_of (reverse past))
  pub now : (moment : ℕ) → now (reverse (plain_past past)) moment ≡ now (reverse past) moment
  pub count : length (plain_past past) ≡ length past
