use Rattle.std.proofs.Common.{map, ap, sym, subst, ◌∙◌, ◌≡◌}
use Rattle.std.specs.List.{count_by}
use Rattle.token_manager.specs.Tokens.{StoredTokens, AreTokenPlaces, AreListed, token_in, is_lasting}
use Rattle.token_manager.proofs.TokenLemmas.{place_pairs, all_of_grant, lasting_counted, others_left, elsewhere_counted}
use Rattle.token_manager.proofs.token_table.TokenTable.lasting_of_others.Goals as goal
use Rattle.token_manager.proofs.token_table.TokenTable.lasting_of_others.Goals.{After-as_slice-places}

are : (c : After-as_slice-places) → AreTokenPlaces c.as_slice-places.result.now
are c = subst AreTokenPlaces (sym c.as_slice-places.ensures.value) c.self.invariant.0

view : (c : After-as_slice-places) → map token_in c.as_slice-places.result.now ≡ c.args.self.now.rows
view c = ap (map token_in) c.as_slice-places.ensures.value ∙ ap (λ (s : StoredTokens). s.rows) c.self.view_is

pub lasting_without-requires-clause-order : goal.lasting_without-requires-clause-order
lasting_without-requires-clause-order c = place_pairs c.as_slice-places.result.now (are (goal.at.lasting_without-requires-clause-order c).After-as_slice-places)

pub lasting_without-requires-clause-counted : goal.lasting_without-requires-clause-counted
lasting_without-requires-clause-counted c =
    c.lasting_at.ensures ∙ sym (lasting_counted c.as_slice-places.result.now c.args.self.now.rows c.args.moment
    (view (goal.at.lasting_without-requires-clause-counted c).After-as_slice-places))

pub returns-in-Some : goal.returns-in-Some
returns-in-Some c =
    let places = c.as_slice-places.result.now in
    let at = (goal.at.returns-in-Some c).After-as_slice-places in
    others_left places c.args.self.now.rows c.args.number c.args.moment c.in-Some.left (view at) (are at)
    (c.in-Some.ensures ∙ ap (count_by (is_lasting c.args.moment)) (all_of_grant places c.self.inside.serials.listed c.of-owned.result.now c.args.number
    (subst (AreListed c.self.inside.serials.listed) (sym c.as_slice-places.ensures.value) c.self.invariant.1) c.of-owned.ensures))

pub returns-in-None : goal.returns-in-None
returns-in-None c =
    let at = (goal.at.returns-in-None c).After-as_slice-places in
    c.lasting_elsewhere.ensures ∙ elsewhere_counted c.as_slice-places.result.now c.args.self.now.rows c.args.number c.args.moment (view at) (are at)
