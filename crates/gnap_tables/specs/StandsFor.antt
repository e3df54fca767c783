-- What it means that tables stand for a history.
use Rattle.std.specs.Prelude.{◌≡◌, ℕ, ◌+◌, List, length, reverse}
use Rattle.std.specs.List.{count_by, flat_map}
use Rattle.histories.specs.declared.entry.Entry.{Entry}
use Rattle.histories.specs.History.{Law, Legal, Answer, by_notes, notes_of, now as latest_of}
use Rattle.gnap_model.specs.declared.objects.Setup.{Setup}
use Rattle.gnap_model.specs.declared.calls.Call.{Call}
use Rattle.gnap_model.specs.declared.calls.Reply.{Reply}
use Rattle.gnap_model.specs.declared.notes.Note.{Note}
use Rattle.gnap_model.specs.Notes.{note_values, first_serial}
use Rattle.gnap_model.specs.Standing.{next_grant, is_opening}
use Rattle.gnap_model.specs.Actions.{outcome_of}
use Rattle.gnap_model.specs.declared.calls.Call.TheVariants.{Lapse}
use Rattle.gnap_model.specs.Answer.{gnap_answer}
use Rattle.gnap_tables.specs.Tables.{Tables, tables_of, after_notes, sweep}
use Rattle.gnap_tables.specs.ActionsByRows.{row_action, row_supply}

-- all that is kept of a history: the rows, the number of the next grant, the serial of the next value, and the greatest moment
pub record Kept : Type 0 where
  pub tables : Tables
  pub next : ℕ
  pub first : ℕ
  pub latest : ℕ

-- what is kept of notes, the oldest first, and of a greatest moment
abbrev pub kept_of : List Note → ℕ → Kept
kept_of notes latest = record {
  tables = tables_of (reverse notes) latest;
  next = next_grant (reverse notes);
  first = first_serial (reverse notes);
  latest = latest;
}

-- the grant machine that takes the calls which fit
abbrev pub machine_of : (Call → Type 0) → Law Setup Call Reply Note
machine_of fits = by_notes gnap_answer fits Lapse

-- the history is legal, and this is kept of it
pub record StandsByRows (fits : Call → Type 0) (rules : Setup) (kept : Kept) (h : List (Entry Call Reply Note)) : Type 0 where
  pub is_legal : Legal (machine_of fits) rules h
  pub kept_is : kept ≡ kept_of (notes_of h) (latest_of h 0)

-- ---- a step

-- what is kept at a later moment: the tables are swept
abbrev pub at_moment : ℕ → Kept → Kept
at_moment now kept = record kept { tables = sweep now kept.tables; latest = now }

-- the reply to a call, and the notes that its entry leaves, from what is kept
abbrev pub row_answer : Setup → Kept → List ℕ → Call → Answer Reply Note
row_answer rules kept draw call = outcome_of (row_supply kept.first kept.tables kept.latest draw) (row_action rules kept.next kept.tables kept.latest call)

-- what is kept after some notes
abbrev pub with_notes : List Note → Kept → Kept
with_notes notes kept = record kept
    { tables = after_notes notes kept.tables; next = kept.next + count_by is_opening notes; first = kept.first + length (flat_map note_values notes) }
