-- What tables stand for doesn't look at the numbers in entries.
use Rattle.std.specs.Prelude.{ℕ, List}
use Rattle.histories.specs.History.{Renumbered}
use Rattle.gnap_model.specs.declared.objects.Setup.{Setup}
use Rattle.gnap_model.specs.Notes.{Event}
use Rattle.table_laws.proofs.TablesThroughCalls.{rows-renumbered}
use Rattle.grant_machine.specs.Gnap.{GnapFits}
use Rattle.grant_states.specs.Grants.{StoredGrants}
use Rattle.token_manager.specs.Tokens.{StoredTokens}
use Rattle.table_core.specs.CallEffects.{kept_in}
use Rattle.table_core.specs.StandsInTables.{StandsInTables}

pub stands-renumbered : (rules : Setup) (grants : StoredGrants) (tokens : StoredTokens) (next first latest : ℕ) (h k : List Event) → Renumbered h k
    → StandsInTables rules grants tokens next first latest h → StandsInTables rules grants tokens next first latest k
stands-renumbered rules grants tokens next first latest h k same stands = record {
  rows = rows-renumbered GnapFits rules (kept_in grants.rows tokens.rows next first latest) h k same stands.rows;
  doors = stands.doors;
}
