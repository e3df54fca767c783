use Rattle.std.proofs.Common.{arith}
use Rattle.test_adding.specs.Standing.{stands-new}
use Rattle.test_adding.proofs.adder.Adder.new.Goals as goal

pub returns-clause-empty : goal.returns-clause-empty
returns-clause-empty c = stands-new c.args.start c.new.result.items (omega (arith, c.ranges.start.fits)) c.new.ensures.items
