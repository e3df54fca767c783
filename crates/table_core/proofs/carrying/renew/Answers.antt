use Rattle.std.proofs.Common.{subst, sym, List}
use Rattle.std.specs.List.{All}
use Rattle.std.specs.Prelude.{◌<◌}
use Rattle.gnap_tables.specs.declared.rows.TokenRow.{TokenRow}
use Rattle.table_core.proofs.Rising.{unretired_below}
use Rattle.table_core.proofs.carrying.renew.Goals as goal

pub issue_all-requires-clause-below : goal.issue_all-requires-clause-below
issue_all-requires-clause-below c =
    subst (λ (rows : List TokenRow). All (λ (row : TokenRow). row.serial < c.args.first) rows) (sym c.retire_old.ensures.rows)
    (unretired_below c.args.renewal.retires c.args.renewal.number c.args.first c.args.tokens.now.rows c.requires.below)
