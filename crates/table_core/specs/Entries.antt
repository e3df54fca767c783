-- What the entry of a call has, in the words of the definitions.
use Rattle.gnap_model.specs.Actions.{Supply}
use Rattle.gnap_tables.specs.Tables.{Tables}
use Rattle.gnap_tables.specs.ActionsByRows.{row_supply}
use Rattle.table_core.specs.CallEffects.{tables_in}
use Rattle.table_core.specs.declared.entering.Entering.{Entering}

abbrev pub tables : Entering → Tables
tables entering = tables_in entering.grants.now.rows entering.tokens.now.rows

-- what it draws on
abbrev pub supply : Entering → Supply
supply entering = row_supply entering.supply.first (tables entering) entering.supply.moment entering.supply.words.now
