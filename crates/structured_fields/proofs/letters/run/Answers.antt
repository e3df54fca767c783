use Rattle.std.proofs.Common.{sym, ◌∙◌}
use Rattle.structured_fields.specs.Classes.{is_of}
use Rattle.structured_fields.proofs.Runs.{run_further, run_stops, run_spent}
use Rattle.structured_fields.proofs.letters.run.Goals as goal

pub loop-i-preserved : goal.loop-i-preserved
loop-i-preserved c = run_further (is_of c.args.class) c.args.bytes.now c.loop-i.i c.loop-i.invariant c.loop-i-test.true
    (sym c.is_of.ensures ∙ c.if-not-is_of.false)

pub returns-then-not-is_of-clause-len : goal.returns-then-not-is_of-clause-len
returns-then-not-is_of-clause-len c = run_stops (is_of c.args.class) c.args.bytes.now c.loop-i.i c.loop-i.invariant c.loop-i-test.true
    (sym c.is_of.ensures ∙ c.if-not-is_of.true)

pub returns-clause-len : goal.returns-clause-len
returns-clause-len c = run_spent (is_of c.args.class) c.args.bytes.now c.loop-i.i c.loop-i.invariant c.loop-i-test.false c.loop-i.auto.i-end
