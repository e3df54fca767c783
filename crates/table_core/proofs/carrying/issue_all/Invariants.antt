use Rattle.std.proofs.Common.{◌≡◌, ◌+◌, ◌++◌, ◌<◌, length}
use Rattle.std.specs.List.{All}
use Rattle.std.specs.Vec.Iter.{into_iter_items, into_iter_len}
use Rattle.gnap_tables.specs.declared.rows.TokenRow.{TokenRow}
use Rattle.table_core.specs.Plans.{rows_in}
use Rattle.table_core.proofs.Rising.{free_after}
use Rattle.table_core.proofs.carrying.issue_all.Given as goal

abbrev pub invariant-loop-row : goal.invariant-loop-row
invariant-loop-row l =
    goal.iterator-loop-row.can_next l.row-iterator
    × goal.iterator-loop-row.is_finite l.row-iterator
    × (l.yielded ++ into_iter_items l.row-iterator ≡ l.fn.rows)
    × (into_iter_len l.row-iterator ≡ length (into_iter_items l.row-iterator))
    × (l.tokens.rows ≡ l.initial.tokens.rows ++ rows_in l.yielded)
    × (l.tokens.spare + length l.yielded ≡ l.initial.tokens.spare)
    × All (λ (row : TokenRow). row.serial < free_after l.first (rows_in l.yielded)) l.tokens.rows
