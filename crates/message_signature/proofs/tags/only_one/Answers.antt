use Rattle.std.proofs.Common.{sym, ◌∙◌}
use Rattle.message_signature.proofs.WithTag.{passed, first, second}
use Rattle.message_signature.proofs.tags.only_one.Goals.{in-Some+else-is_some, in_default}
use Rattle.message_signature.proofs.tags.only_one.Goals as goal

pub returns-then-is_some : goal.returns-then-is_some
returns-then-is_some c = second (λ x. (x.0.now, x.1.now)) c.args.tag.now c.args.inputs.now c.loop-i.i c.at.result.0.now c.at.result.1.now c.at.ensures
    c.in-Some.list.now (sym c.in-Some.ensures)
    c.loop-i.found c.loop-i.invariant (sym c.is_some.ensures ∙ c.if-is_some.true)

pub loop-i-preserved : goal.loop-i-preserved
loop-i-preserved c = elim c.match-tagged_list.branch [
  | in-Some+else-is_some w ↦ rw w.found-is
      (first (λ x. (x.0.now, x.1.now)) c.args.tag.now c.args.inputs.now c.loop-i.i c.at.result.0.now c.at.result.1.now c.at.ensures w.in-Some.list.now
      (sym w.in-Some.ensures)
      c.loop-i.found c.loop-i.invariant (sym w.is_some.ensures ∙ w.if-is_some.false))
  | in_default w ↦ rw w.found-is (passed (λ x. (x.0.now, x.1.now)) c.args.tag.now c.args.inputs.now c.loop-i.i c.at.result.0.now c.at.result.1.now c.at.ensures
      c.loop-i.found c.loop-i.invariant (sym w.in_default.ensures))
]
