use Rattle.std.specs.Prelude.{Ok, Err}
use Rattle.outside.specs.declared.link.LinkFault.TheVariants as link_faults
use Rattle.resource_server.specs.Guarding.{failed, no_room}
use Rattle.resource_server.proofs.Putting.{starved_now, asked_now}
use Rattle.resource_server.proofs.guarding.guard_by.Goals as goal

pub returns-in_default-clause-guards : goal.returns-in_default-clause-guards
returns-in_default-clause-guards g c = starved_now _ _ _ _

pub returns-in_default-introspection_text-clause-guards : goal.returns-in_default-introspection_text-clause-guards
returns-in_default-introspection_text-clause-guards g c = starved_now _ _ _ _

pub returns-in-Ok-ask-clause-guards : goal.returns-in-Ok-ask-clause-guards
returns-in-Ok-ask-clause-guards g c = asked_now c.args.setup.now c.args.message.now c.args.now c.args.i (c.args.scheme, c.args.value.now) c.at.result.now
    c.in-Ok.wanted
    c.in-Ok-introspection_text.text _ _ (Ok c.in-Ok-ask.reply) c.judged.result
    c.requires.place c.at.ensures c.in-Ok.ensures.value c.in-Ok-introspection_text.ensures c.in-Ok-ask.ensures
    (rw c.as_slice.ensures.value at c.judged.ensures.judged)

pub returns-in-Err-Failed-clause-guards : goal.returns-in-Err-Failed-clause-guards
returns-in-Err-Failed-clause-guards g c = asked_now c.args.setup.now c.args.message.now c.args.now c.args.i (c.args.scheme, c.args.value.now) c.at.result.now
    c.in-Ok.wanted
    c.in-Ok-introspection_text.text _ _ (Err link_faults.Failed) _
    c.requires.place c.at.ensures c.in-Ok.ensures.value c.in-Ok-introspection_text.ensures
    (rw c.in-Err-Failed.field-0-is at c.in-Err-Failed.ensures) failed

pub returns-clause-guards : goal.returns-clause-guards
returns-clause-guards g c = asked_now c.args.setup.now c.args.message.now c.args.now c.args.i (c.args.scheme, c.args.value.now) c.at.result.now c.in-Ok.wanted
    c.in-Ok-introspection_text.text _ _ (Err link_faults.OutOfMemory) _
    c.requires.place c.at.ensures c.in-Ok.ensures.value c.in-Ok-introspection_text.ensures
    (rw c.in-Err-OutOfMemory.field-0-is at c.in-Err-OutOfMemory.ensures) no_room
