-- Which grants had a continuation value (RFC 9635, section 3.1).
use Rattle.std.specs.Prelude.{ℕ, ◌==◌, not, ◌&&◌, Bool, false}
use Rattle.std.specs.declared.option.Option.{Option}
use Rattle.std.specs.declared.option.Option.TheVariants.{None}
use Rattle.gnap_model.specs.Common.{Text, same_text, some_if}
use Rattle.gnap_model.specs.declared.notes.Note.{Note}
use Rattle.gnap_model.specs.declared.notes.Note.TheVariants.{Door}

-- the grant of which the note says that it has this continuation value
abbrev pub holder_in : Text → Note → Option ℕ
holder_in value (Door holder text earliest) = some_if (same_text text value) holder
holder_in value _ = None

-- another grant than this one has this continuation value
abbrev pub is_held_by_other : ℕ → Text → Note → Bool
is_held_by_other grant value (Door holder text earliest) = same_text text value && not (holder == grant)
is_held_by_other grant value _ = false
