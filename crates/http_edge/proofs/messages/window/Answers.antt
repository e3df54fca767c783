use Rattle.std.proofs.Common.{arith, refl, sym}
use Rattle.std.proofs.lemmas.List.{take_all, length-take-le}
use Rattle.http_edge.specs.Streams.{window}
use Rattle.http_edge.proofs.messages.window.Goals as goal

pub slice_bounds-result-end : goal.slice_bounds-result-end
slice_bounds-result-end c = sym (length-take-le 16384 c.args.b.now (omega arith))

pub returns-then-b-gt-HEAD_LIMIT-clause-window : goal.returns-then-b-gt-HEAD_LIMIT-clause-window
unfolding window
returns-then-b-gt-HEAD_LIMIT-clause-window c = refl

pub returns-then-b-gt-HEAD_LIMIT-clause-short : goal.returns-then-b-gt-HEAD_LIMIT-clause-short
returns-then-b-gt-HEAD_LIMIT-clause-short c = omega (arith, length-take-le 16384 c.args.b.now (omega arith))

pub returns-else-b-gt-HEAD_LIMIT-clause-window : goal.returns-else-b-gt-HEAD_LIMIT-clause-window
unfolding window
returns-else-b-gt-HEAD_LIMIT-clause-window c = sym (take_all 16384 c.args.b.now c.if-b-gt-HEAD_LIMIT.false)
