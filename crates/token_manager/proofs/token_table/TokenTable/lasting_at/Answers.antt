use Rattle.std.proofs.Common.{map, sym, ◌∙◌, ap}
use Rattle.std.specs.List.{count_by}
use Rattle.token_manager.specs.Tokens.{StoredTokens, token_in, is_lasting}
use Rattle.token_manager.proofs.TokenLemmas.{lasting_counted}
use Rattle.token_manager.proofs.token_table.TokenTable.lasting_at.Goals as goal

pub returns-then-moment-self : goal.returns-then-moment-self
returns-then-moment-self c = c.self.invariant.2 ∙ ap (λ n. count_by (is_lasting n) c.self.inside.places.items) (sym c.if-moment-self.true)
    ∙ lasting_counted c.self.inside.places.items c.args.self.now.rows c.args.moment (ap (λ (s : StoredTokens). s.rows) c.self.view_is)

pub returns-else-moment-self : goal.returns-else-moment-self
returns-else-moment-self c = c.lasting_count.ensures
    ∙ lasting_counted c.as_slice.result.now c.args.self.now.rows c.args.moment
    (ap (map token_in) c.as_slice.ensures.value ∙ ap (λ (s : StoredTokens). s.rows) c.self.view_is)
