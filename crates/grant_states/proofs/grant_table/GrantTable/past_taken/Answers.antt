use Rattle.std.proofs.Common.{ap, arith}
use Rattle.grant_states.specs.Grants.{StoredGrants}
use Rattle.grant_states.proofs.OpenRounds.{code_taken}
use Rattle.grant_states.proofs.grant_table.GrantTable.past_taken.Goals as goal

pub returns-clause-taken : goal.returns-clause-taken
returns-clause-taken c = λ k low lt.
    let h = c.run_end.ensures.run k low lt in
    code_taken c.self.inside.swept c.args.now c.self.inside.codes c.self.inside.places.items c.args.self.now.rows k h.0 c.self.invariant.2
    (omega (arith, c.if-self-now.false)) (ap (λ (s : StoredGrants). s.rows) c.self.view_is) h.1
