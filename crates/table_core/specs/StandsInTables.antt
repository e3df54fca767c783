-- What it means that stored tables stand for a history.
use Rattle.std.specs.Prelude.{ℕ, ◌≤◌, List}
use Rattle.gnap_model.specs.declared.objects.Setup.{Setup}
use Rattle.gnap_model.specs.Notes.{Event}
use Rattle.gnap_tables.specs.StandsFor.{StandsByRows}
use Rattle.grant_machine.specs.Gnap.{GnapFits}
use Rattle.grant_states.specs.Grants.{StoredGrants}
use Rattle.token_manager.specs.Tokens.{StoredTokens}
use Rattle.table_core.specs.CallEffects.{kept_in}

-- the rows are those of the history, and the next value has a greater serial than each continuation value that the table of grants was given
pub record StandsInTables (rules : Setup) (grants : StoredGrants) (tokens : StoredTokens) (next first latest : ℕ) (h : List Event) : Type 0 where
  pub rows : StandsByRows GnapFits rules (kept_in grants.rows tokens.rows next first latest) h
  pub doors : grants.doors_below ≤ first
