use Rattle.std.proofs.Common.{inl, refl}
use Rattle.resource_server.proofs.Putting.{judged_bad}
use Rattle.introspection_cache.proofs.cached_guard.judge_new.Goals as goal

pub returns-in-Ok-None-clause-judged : goal.returns-in-Ok-None-clause-judged
returns-in-Ok-None-clause-judged c = judged_bad c.args.setup.now c.args.message.now c.args.now c.args.i c.args.wanted.now c.args.reply _
    (rw (c.in-Ok-None.field-0-is, c.as_slice.ensures.value) at c.in-Ok-None.ensures) (inl refl)

pub returns-in-Some-clause-answer : goal.returns-in-Some-clause-answer
returns-in-Some-clause-answer c = c.with_kept.ensures.answer c.args.setup.now c.in-Ok.ensures.answer
