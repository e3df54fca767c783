use Rattle.resource_server.proofs.Putting.{judged_bad}
use Rattle.resource_server.proofs.judging.judged.Goals as goal

pub returns-in-Ok-None-clause-judged : goal.returns-in-Ok-None-clause-judged
returns-in-Ok-None-clause-judged c = judged_bad c.args.setup.now c.args.message.now c.args.now c.args.i c.args.wanted.now c.args.reply.now c.bad_reply.result
    (rw c.in-Ok-None.field-0-is at c.in-Ok-None.ensures) c.bad_reply.ensures.value
