use Rattle.std.proofs.Common.{◌≡◌, take, map}
use Rattle.std.specs.Prelude.{option_map}
use Rattle.gnap_model.specs.Common.{some_if}
use Rattle.gnap_tables.specs.declared.rows.GrantRow.{GrantRow}
use Rattle.gnap_tables.specs.RowSearches.{newest}
use Rattle.grant_states.specs.Interactions.{is_open_by}
use Rattle.grant_states.specs.Grants.{grant_in}
use Rattle.grant_states.proofs.grant_table.last_open_of_all.Given as goal

abbrev pub invariant-loop-place : goal.invariant-loop-place
invariant-loop-place l = option_map (λ row. row.now) l.found
    ≡ newest (λ (row : GrantRow). some_if (is_open_by l.name l.now row.round) row) (map grant_in (take l.place-index l.places))
