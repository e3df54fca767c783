use Rattle.std.proofs.Common.{◌∙◌, ap, arith}
use Rattle.std.specs.Option.{option_and_then}
use Rattle.gnap_model.specs.Common.{same_text, some_if}
use Rattle.gnap_tables.specs.declared.rows.TokenRow.{TokenRow}
use Rattle.token_manager.specs.Tokens.{StoredTokens}
use Rattle.token_manager.proofs.TokenLemmas.{ascending_slice, manage_found, manage_missing, count_same}
use Rattle.token_manager.proofs.token_table.TokenTable.find_managed.Goals as goal

pub place-at-requires : goal.place-at-requires
place-at-requires g c = ascending_slice c.as_slice-places.result.now c.self.inside.places.items c.as_slice-places.ensures.value c.self.invariant.0

pub returns-in-Some-clause-row : goal.returns-in-Some-clause-row
returns-in-Some-clause-row g c =
    c.with_manage.ensures ∙ ap (option_and_then (λ (row : TokenRow). some_if (same_text row.manage c.args.value.now) row)) c.row_at.ensures
    ∙ manage_found c.as_slice-places.result.now c.self.inside.places.items c.args.self.now.rows c.args.value.now c.place-at.result c.in-Some.serial
    c.saturating_sub.result c.as_slice-places.ensures.value (ap (λ (s : StoredTokens). s.rows) c.self.view_is) c.self.invariant.0 c.in-Some.ensures.drawn
    c.saturating_sub.ensures c.place-at.ensures.place

pub returns-in-Some-clause-cost : goal.returns-in-Some-clause-cost
returns-in-Some-clause-cost g c =
    let n = count_same c.as_slice-places.result.now c.self.inside.places.items c.args.self.now.rows c.as_slice-places.ensures.value
    (ap (λ (s : StoredTokens). s.rows) c.self.view_is) in
    omega (arith, n, c.place-at.ensures.cost)

pub returns-in-None-clause-row : goal.returns-in-None-clause-row
returns-in-None-clause-row g c = manage_missing c.self.inside.places.items c.args.self.now.rows c.args.value.now
    (ap (λ (s : StoredTokens). s.rows) c.self.view_is) c.self.invariant.0 c.in-None.ensures.drawn
