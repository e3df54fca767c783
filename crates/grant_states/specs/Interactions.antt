-- By what an interaction is found (RFC 9635, section 4.1).
use Rattle.std.specs.Prelude.{ℕ, Bool, false, not, ◌&&◌, nat_lt, is_some}
use Rattle.std.specs.declared.option.Option.{Option}
use Rattle.std.specs.declared.option.Option.TheVariants.{None, Some}
use Rattle.gnap_model.specs.Common.{same_text, is_text}
use Rattle.gnap_model.specs.declared.notes.RoundNote.{RoundNote}
use Rattle.gnap_tables.specs.declared.rows.Round.{Round}
use Rattle.grant_states.specs.declared.interactions.InteractionName.{InteractionName}
use Rattle.grant_states.specs.declared.interactions.InteractionName.TheVariants.{Handle, Code}

-- the round of a note has this handle or this user code
abbrev pub goes_by : InteractionName → RoundNote → Bool
goes_by (Handle handle) round = same_text round.handle handle.now
goes_by (Code code) round = is_text code.now round.code

-- the same of the round of a row
abbrev pub is_called : InteractionName → Round → Bool
is_called (Handle handle) round = same_text round.handle handle.now
is_called (Code code) round = is_text code.now round.code

-- the user may still decide in the round of this name
abbrev pub is_open_by : InteractionName → ℕ → Option Round → Bool
is_open_by name now None = false
is_open_by name now (Some round) = not (is_some round.decision) && nat_lt now round.until && is_called name round
