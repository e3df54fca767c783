use Rattle.std.proofs.Common.{arith}
use Rattle.body_reading.proofs.PlainBodies.{space_passed}
use Rattle.body_reading.proofs.plain_bodies.Rest.take_mark.Goals as goal

pub returns : goal.returns
returns c held =
    (c.take.new.self, grind arith, space_passed c.take-2.result c.take.new.self c.take-2.new.self c.take-2.ensures.taken c.take-2.ensures.kept)
