-- An action without notes changes nothing.
use Rattle.std.proofs.Common.{◌≡◌, List, [], length, sym, ap}
use Rattle.std.specs.List.{count_by, flat_map}
use Rattle.gnap_model.specs.Notes.{note_values}
use Rattle.gnap_model.specs.Standing.{is_opening}
use Rattle.gnap_model.specs.Actions.{Action, Supply, outcome_of}
use Rattle.gnap_model.specs.declared.calls.Reply.{Reply}
use Rattle.gnap_model.specs.declared.notes.Note.{Note}
use Rattle.gnap_tables.specs.Tables.{Tables, after_notes}
use Rattle.table_core.specs.CallEffects.{ActsBy}
use Rattle.table_core.specs.declared.answered.Answered.{Answered}

abbrev pub undrawn_of : Reply → Answered
undrawn_of reply = record { reply = reply; opened = 0; drawn = 0 }

pub no_notes : (supply : Supply) (action : Action) (t : Tables) (reply : Reply) → (outcome_of supply action).reply ≡ reply
    → (outcome_of supply action).notes ≡ []
    → ActsBy supply action t t (undrawn_of reply)
no_notes supply action t reply says none = record {
  reply = sym says;
  tables = sym (ap (λ (ns : List Note). after_notes ns t) none);
  opened = sym (ap (λ (ns : List Note). count_by is_opening ns) none);
  drawn = sym (ap (λ (ns : List Note). length (flat_map note_values ns)) none);
}
