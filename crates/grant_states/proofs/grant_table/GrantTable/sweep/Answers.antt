use Rattle.std.proofs.Common.{rules, refl, map, ap, sym, subst, ◌∙◌, ◌≡◌, ◌≤◌, List, Bool, arith}
use Rattle.std.specs.Prelude.{not, filter}
use Rattle.std.proofs.lemmas.Fn.{filter_same}
use Rattle.gnap_tables.specs.declared.rows.GrantRow.{GrantRow}
use Rattle.gnap_tables.specs.Tables.{sweep_grants, is_row_over}
use Rattle.grant_states.specs.declared.grant_table.GrantPlace.{GrantPlace}
use Rattle.grant_states.specs.declared.open_codes.OpenCodes.{OpenCodes}
use Rattle.grant_states.specs.Grants.{StoredGrants, AreCodesListed, AreGrantPlaces, AreHandlesListed, grant_in}
use Rattle.grant_states.proofs.GrantLemmas.{HoldGrants, ascending_places, kept_grants, place_pairs}
use Rattle.grant_states.proofs.NamedRounds.{named_kept}
use Rattle.grant_states.proofs.OpenRounds.{swept_codes}
use Rattle.grant_states.proofs.grant_table.GrantTable.sweep.Goals as goal
use Rattle.grant_states.proofs.grant_table.GrantTable.sweep.Goals.{After-retain}

left : (c : After-retain) → c.retain.new.self.items ≡ filter (λ (place : GrantPlace). not (is_row_over c.args.now (grant_in place))) c.self.inside.places.items
left c = filter_same _ _ _ (λ x b f' k. search rules) _ _ c.retain.ensures.filtered

held : (c : After-retain) → HoldGrants (filter (λ (place : GrantPlace). not (is_row_over c.args.now (grant_in place))) c.self.inside.places.items)
    c.self.inside.doors.items c.self.inside.doors_below (sweep_grants c.args.now (map grant_in c.self.inside.places.items))
held c = kept_grants (λ (place : GrantPlace). not (is_row_over c.args.now (grant_in place))) (λ (row : GrantRow). not (is_row_over c.args.now row))
    c.self.inside.places.items c.self.inside.doors.items c.self.inside.doors_below c.self.invariant.0 (λ p e. refl)

pub drop_closed-requires : goal.drop_closed-requires
drop_closed-requires c =
    let kept = (goal.at.drop_closed-requires c).After-retain in
    ascending_places c.as_slice.result.now (filter (λ (place : GrantPlace). not (is_row_over c.args.now (grant_in place))) c.self.inside.places.items)
    c.self.inside.doors.items c.self.inside.doors_below (c.as_slice.ensures.value ∙ left kept) (held kept).1

pub returns-clause-rows : goal.returns-clause-rows
returns-clause-rows c =
    let kept = (goal.at.returns-clause-rows c).After-retain in ap (map grant_in) (left kept) ∙ (held kept).0
    ∙ ap (sweep_grants c.args.now) (ap (λ (s : StoredGrants). s.rows) c.self.view_is)

pub invariant_of-self : goal.invariant_of-self
invariant_of-self c =
    let kept = (goal.at.invariant_of-self c).After-retain in
    let test : GrantPlace → Bool = λ (place : GrantPlace). not (is_row_over c.args.now (grant_in place)) in
    let more : OpenCodes = record c.self.inside.codes { lists = c.drop_closed.new.lists } in
    let late : c.self.inside.swept ≤ c.max-self-inside.result = omega (arith, c.max-self-inside.ensures) in (
      subst (λ (ps : List GrantPlace). AreGrantPlaces ps c.self.inside.doors.items c.self.inside.doors_below) (sym (left kept)) (held kept).1,
      subst (AreHandlesListed c.self.inside.handles.listed) (sym (left kept))
          (named_kept c.self.inside.handles.listed test c.self.inside.places.items c.self.invariant.1),
      subst (AreCodesListed c.max-self-inside.result more) (sym (left kept))
          (swept_codes c.self.inside.swept c.max-self-inside.result c.self.inside.codes more c.self.inside.places.items c.as_slice.result.now test
          c.self.invariant.2
          (place_pairs c.self.inside.places.items c.self.inside.doors.items c.self.inside.doors_below c.self.invariant.0)
          (place_pairs (filter test c.self.inside.places.items) c.self.inside.doors.items c.self.inside.doors_below (held kept).1) late
          (c.as_slice.ensures.value ∙ left kept) refl c.drop_closed.ensures),
    )
