use Rattle.std.proofs.Common.{rules, ◌≡◌, max, refl}
use Rattle.table_core.specs.CallEffects.{tables_in}
use Rattle.table_core.proofs.Stepping.{step_err}
use Rattle.table_core.proofs.row_core.RowCorePasses.pass.Goals as goal

pub returns-clause-lapses : goal.returns-clause-lapses
returns-clause-lapses c =
    let s = c.args.self.now in
    let at : c.max-self.result ≡ max s.latest c.args.moment = search rules in
    λ h draw stands. step_err s.rules s.grants c.advance.new.grants s.tokens c.advance.new.tokens
    (tables_in c.advance.new.grants.rows c.advance.new.tokens.rows) s.next s.first s.latest
    c.max-self.result c.args.moment draw h stands c.requires.in_time at c.advance.ensures.rows refl c.advance.ensures.doors
