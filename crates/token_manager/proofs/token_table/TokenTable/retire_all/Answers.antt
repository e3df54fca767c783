use Rattle.std.proofs.Common.{map, ap, sym, subst, ◌∙◌, ◌≡◌}
use Rattle.std.specs.Prelude.{not, ◌==◌, filter}
use Rattle.gnap_tables.specs.declared.rows.TokenRow.{TokenRow}
use Rattle.gnap_tables.specs.Tables.{drop_tokens_of}
use Rattle.token_manager.specs.declared.token_table.TokenPlace.{TokenPlace}
use Rattle.token_manager.specs.Tokens.{StoredTokens, AreTokenPlaces, AreListed, token_in}
use Rattle.token_manager.proofs.TokenLemmas.{HoldRows, kept_places, place_pairs, all_of_grant, listed_left, listed_elsewhere}
use Rattle.token_manager.proofs.token_table.TokenTable.retire_all.Goals as goal
use Rattle.token_manager.proofs.token_table.TokenTable.retire_all.Goals.{After-take_out_all-self-inside}

pub take_out_all-self-inside-requires-clause-order : goal.take_out_all-self-inside-requires-clause-order
take_out_all-self-inside-requires-clause-order c = place_pairs c.self.inside.places.items c.self.invariant.0

left : (c : After-take_out_all-self-inside)
    → c.take_out_all-self-inside.new.places.items ≡ filter (λ (place : TokenPlace). not (c.args.grant == place.grant)) c.self.inside.places.items
left c = c.take_out_all-self-inside.ensures.items
    ∙ all_of_grant c.self.inside.places.items c.self.inside.serials.listed c.of.result.now c.args.grant c.self.invariant.1 c.of.ensures

held : (c : After-take_out_all-self-inside)
    → HoldRows (filter (λ (place : TokenPlace). not (c.args.grant == place.grant)) c.self.inside.places.items)
    (drop_tokens_of c.args.grant (map token_in c.self.inside.places.items))
held c = kept_places (λ (place : TokenPlace). not (c.args.grant == place.grant)) (λ (row : TokenRow). not (c.args.grant == row.grant))
    c.self.inside.places.items c.self.invariant.0 (λ p is. ap (λ n. not (c.args.grant == n)) is.grant)

pub returns-clause-rows : goal.returns-clause-rows
returns-clause-rows c =
    let kept = (goal.at.returns-clause-rows c).After-take_out_all-self-inside in ap (map token_in) (left kept) ∙ (held kept).0
    ∙ ap (drop_tokens_of c.args.grant) (ap (λ (s : StoredTokens). s.rows) c.self.view_is)

pub invariant_of-self : goal.invariant_of-self
invariant_of-self c = let kept = (goal.at.invariant_of-self c).After-take_out_all-self-inside in (
  subst AreTokenPlaces (sym (left kept)) (held kept).1,
  subst (AreListed c.unlist_all.new.self.listed) (sym (left kept))
      (listed_elsewhere c.self.inside.serials.listed c.unlist_all.new.self.listed c.self.inside.places.items c.args.grant
      (listed_left (λ (place : TokenPlace). not (c.args.grant == place.grant)) c.self.inside.serials.listed c.self.inside.places.items c.self.invariant.1)
      c.unlist_all.ensures.kept),
  c.take_out_all-self-inside.ensures.counted,
)
