use Rattle.std.proofs.Common.{rules, map, ap, sym, subst, ◌∙◌, ◌≡◌}
use Rattle.std.specs.Prelude.{filter}
use Rattle.std.specs.List.{count_by}
use Rattle.std.proofs.lemmas.Fn.{filter_same}
use Rattle.gnap_tables.specs.declared.rows.TokenRow.{TokenRow}
use Rattle.gnap_tables.specs.Tables.{sweep_tokens, has_grant}
use Rattle.token_manager.specs.declared.token_table.TokenPlace.{TokenPlace}
use Rattle.token_manager.specs.Tokens.{StoredTokens, AreTokenPlaces, AreListed, token_in, is_lasting}
use Rattle.token_manager.proofs.TokenLemmas.{HoldRows, kept_places, listed_left}
use Rattle.token_manager.proofs.token_table.TokenTable.sweep.Goals as goal
use Rattle.token_manager.proofs.token_table.TokenTable.sweep.Goals.{After-retain}

left : (c : After-retain) → c.retain.new.self.items ≡ filter (λ (place : TokenPlace). has_grant place.grant c.args.grants.now.rows) c.self.inside.places.items
left c = filter_same _ _ _ (λ x b f' k. search rules) _ _ c.retain.ensures.filtered

held : (c : After-retain) → HoldRows (filter (λ (place : TokenPlace). has_grant place.grant c.args.grants.now.rows) c.self.inside.places.items)
    (sweep_tokens c.args.grants.now.rows (map token_in c.self.inside.places.items))
held c = kept_places (λ (place : TokenPlace). has_grant place.grant c.args.grants.now.rows) (λ (row : TokenRow). has_grant row.grant c.args.grants.now.rows)
    c.self.inside.places.items c.self.invariant.0 (λ p is. ap (λ n. has_grant n c.args.grants.now.rows) is.grant)

pub returns-clause-rows : goal.returns-clause-rows
returns-clause-rows c =
    let kept = (goal.at.returns-clause-rows c).After-retain in ap (map token_in) (left kept) ∙ (held kept).0
    ∙ ap (sweep_tokens c.args.grants.now.rows) (ap (λ (s : StoredTokens). s.rows) c.self.view_is)

pub invariant_of-self : goal.invariant_of-self
invariant_of-self c = let kept = (goal.at.invariant_of-self c).After-retain in (
  subst AreTokenPlaces (sym (left kept)) (held kept).1,
  subst (AreListed c.self.inside.serials.listed) (sym (left kept))
      (listed_left (λ (place : TokenPlace). has_grant place.grant c.args.grants.now.rows) c.self.inside.serials.listed c.self.inside.places.items
      c.self.invariant.1),
  c.lasting_count-self-inside.ensures ∙ ap (count_by (is_lasting c.args.moment)) c.as_slice.ensures.value,
)
