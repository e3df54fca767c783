use Rattle.std.proofs.Common.{rules}
use Rattle.nonce_store.proofs.Covered.{swept_whole, swept_all, none_live, covers_none}
use Rattle.nonce_store.proofs.sweeping.sweep.Goals as goal

pub returns-clause-swept : goal.returns-clause-swept
returns-clause-swept c =
    swept_whole c.args.latest c.loop-run.seconds c.args.kept.now.keys c.loop-run.kept.keys c.loop-run.invariant.0 c.loop-run.invariant.1
    c.in_default.ensures.none_over

pub returns-then-are_over-clause-covers : goal.returns-then-are_over-clause-covers
returns-then-are_over-clause-covers c = covers_none c.clear.new.self c.forget_all.new.self.keys c.forget_all.ensures.rows

pub returns-then-are_over-clause-swept : goal.returns-then-are_over-clause-swept
returns-then-are_over-clause-swept c =
    swept_all c.args.latest c.args.kept.now.keys c.loop-run.kept.keys c.forget_all.new.self.keys c.loop-run.kept.ordered c.loop-run.invariant.1
    (none_live c.args.latest c.loop-run.seconds c.pop_over.new.seconds c.loop-run.kept.keys c.in-Some.run' c.loop-run.invariant.0 c.in-Some.ensures.some
    (c.are_over.ensures.over (search rules)))
    c.forget_all.ensures.rows c.forget_all.ensures.counts
