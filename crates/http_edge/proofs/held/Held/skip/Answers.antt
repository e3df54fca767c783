use Rattle.std.proofs.Common.{◌∙◌, ap, drop, arith, length}
use Rattle.http_edge.proofs.Buffers.{between_skip, length_between}
use Rattle.http_edge.proofs.held.Held.skip.Goals as goal

pub returns-clause-rest : goal.returns-clause-rest
returns-clause-rest c =
    let h = c.self.inside in
    let len = length_between h.buffer.items h.start h.end c.self.invariant.0 c.self.invariant.1 in
    between_skip h.buffer.items h.start h.end c.args.count (omega (arith, len, ap length c.self.view_is)) ∙ ap (drop c.args.count) c.self.view_is
