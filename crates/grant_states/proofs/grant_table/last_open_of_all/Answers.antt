use Rattle.std.proofs.Common.{◌∙◌, List, map, ap, arith}
use Rattle.std.proofs.lemmas.List.{take_all}
use Rattle.gnap_model.specs.Common.{some_if}
use Rattle.gnap_tables.specs.declared.rows.GrantRow.{GrantRow}
use Rattle.gnap_tables.specs.RowSearches.{newest}
use Rattle.grant_states.specs.declared.grant_table.GrantPlace.{GrantPlace}
use Rattle.grant_states.specs.Interactions.{is_open_by}
use Rattle.grant_states.specs.Grants.{grant_in}
use Rattle.grant_states.proofs.NamedRounds.{newest_step}
use Rattle.grant_states.proofs.grant_table.last_open_of_all.Goals as goal

pub loop-place-preserved : goal.loop-place-preserved
loop-place-preserved c =
    newest_step (λ (row : GrantRow). some_if (is_open_by c.args.name c.args.now row.round) row) c.args.places.now c.loop-place.place-index c.place-item.result
    c.as_ref.result.now _ _ c.loop-place-test.true c.place-item.is c.as_ref.ensures c.loop-place.invariant c.open_or-found.ensures

pub returns : goal.returns
returns c = c.loop-place.invariant
    ∙ ap (λ (ps : List GrantPlace). newest (λ (row : GrantRow). some_if (is_open_by c.args.name c.args.now row.round) row) (map grant_in ps))
    (take_all c.loop-place.place-index c.args.places.now (omega (arith, c.loop-place-test.false)))
