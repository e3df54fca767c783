-- A wrong interaction reference, by the rows.
use Rattle.std.specs.Prelude.{◌+◌, nat_le, if◌then◌else◌}
use Rattle.gnap_model.specs.Limits.{wrong_limit}
use Rattle.gnap_model.specs.Actions.{Action}
use Rattle.gnap_model.specs.Actions.Action.{WrongReference, LastWrongReference}
use Rattle.gnap_tables.specs.declared.rows.GrantRow.{GrantRow}
use Rattle.gnap_tables.specs.declared.rows.Round.{Round}
use Rattle.gnap_tables.specs.RowSearches.{opening_of}

-- the fifth of a round ends the grant
abbrev pub wrong_rows : GrantRow → Round → Action
wrong_rows row round = if nat_le wrong_limit (round.wrongs + 1) then LastWrongReference (opening_of row) else WrongReference (opening_of row)
