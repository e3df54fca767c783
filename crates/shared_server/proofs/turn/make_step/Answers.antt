use Rattle.std.proofs.Common.{sym, ap, subst, ◌∙◌}
use Rattle.shared_server.proofs.turn.make_step.Goals as goal

pub step-requires-clause-short : goal.step-requires-clause-short
step-requires-clause-short g c = let r = c.requires.short in (r.0, subst (λ x. g.C.Core.stands x r.0) (sym c.as_mut.ensures.value) r.1, r.2)

pub returns-clause-rules : goal.returns-clause-rules
returns-clause-rules g c = c.step.ensures.rules ∙ ap g.C.Core.rules c.as_mut.ensures.value

pub returns-clause-ok : goal.returns-clause-ok
returns-clause-ok g c = rw (← c.as_mut.ensures.value) c.step.ensures.ok

pub returns-clause-err : goal.returns-clause-err
returns-clause-err g c = rw (← c.as_mut.ensures.value) c.step.ensures.err
