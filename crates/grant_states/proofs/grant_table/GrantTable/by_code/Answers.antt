use Rattle.std.proofs.Common.{◌∙◌, ◌≡◌, ℕ, [], ◌∷◌, Option, Some, None, ap, arith, inl, map, refl, subst, sym}
use Rattle.std.specs.Prelude.{option_map}
use Rattle.gnap_model.specs.Common.{some_if}
use Rattle.gnap_tables.specs.declared.rows.GrantRow.{GrantRow}
use Rattle.gnap_tables.specs.RowSearches.{newest}
use Rattle.grant_states.specs.declared.interactions.InteractionName.TheVariants.{Code}
use Rattle.grant_states.specs.Interactions.{is_open_by}
use Rattle.grant_states.specs.Listed.{under}
use Rattle.grant_states.specs.Grants.{IsLatest, StoredGrants, grant_in, open_numbered}
use Rattle.grant_states.proofs.GrantLemmas.{ascending_places}
use Rattle.grant_states.proofs.InteractionLemmas.{open_rows}
use Rattle.grant_states.proofs.NamedRounds.{interaction_latest, latest_more, latest_none}
use Rattle.grant_states.proofs.OpenRounds.{code_found}
use Rattle.grant_states.proofs.grant_table.GrantTable.by_code.Goals as goal

pub open_at-requires : goal.open_at-requires
open_at-requires c = ascending_places c.as_slice-places.result.now c.self.inside.places.items c.self.inside.doors.items c.self.inside.doors_below
    c.as_slice-places.ensures.value c.self.invariant.0

pub returns-then-now-self : goal.returns-then-now-self
returns-then-now-self c =
    c.last_open_of_all.ensures
    ∙ ap (newest (λ (row : GrantRow). some_if (is_open_by (Code c.args.code) c.args.now row.round) row))
    (ap (map grant_in) c.as_slice-places.ensures.value ∙ ap (λ (s : StoredGrants). s.rows) c.self.view_is)
    ∙ sym (open_rows (Code c.args.code) c.args.now c.args.self.now.rows)

pub returns-in-Some : goal.returns-in-Some
returns-in-Some c =
    let look : ℕ → Option GrantRow = open_numbered c.as_slice-places.result.now c.args.now (Code c.args.code) in
    interaction_latest c.as_slice-places.result.now c.self.inside.places.items c.self.inside.doors.items c.self.inside.doors_below c.args.self.now.rows
    (under 0 c.in-Some.number ∷ []) (Code c.args.code) c.args.now (option_map (λ row. row.now) c.open_at.result)
    c.as_slice-places.ensures.value (ap (λ (s : StoredGrants). s.rows) c.self.view_is) c.self.invariant.0
    (λ p h e.
    let k : Some c.in-Some.number ≡ Some p.number =
    code_found c.self.inside.swept c.args.now c.self.inside.codes c.self.inside.places.items (Code c.args.code) c.args.code.now (Some c.in-Some.number)
    c.self.invariant.2 c.if-not-self.false (omega (arith, c.if-now-self.false)) (λ round t. t) c.in-Some.ensures p h e in
    (under 0 c.in-Some.number, inl refl, cc k))
    (subst (IsLatest look (under 0 c.in-Some.number ∷ [])) (sym c.open_at.ensures) (latest_more look [] (under 0 c.in-Some.number) None (latest_none look)))

pub returns-in-None : goal.returns-in-None
returns-in-None c =
    let look : ℕ → Option GrantRow = open_numbered c.as_slice-places.result.now c.args.now (Code c.args.code) in
    interaction_latest c.as_slice-places.result.now c.self.inside.places.items c.self.inside.doors.items c.self.inside.doors_below c.args.self.now.rows []
    (Code c.args.code) c.args.now None
    c.as_slice-places.ensures.value (ap (λ (s : StoredGrants). s.rows) c.self.view_is) c.self.invariant.0
    (λ p h e.
    let k : None ≡ Some p.number =
    code_found c.self.inside.swept c.args.now c.self.inside.codes c.self.inside.places.items (Code c.args.code) c.args.code.now None c.self.invariant.2
    c.if-not-self.false (omega (arith, c.if-now-self.false)) (λ round t. t) c.in-None.ensures p h e in cc k)
    (latest_none look)
