use Rattle.std.proofs.Common.{◌≡◌, max, subst, arith}
use Rattle.signed_calls.specs.Remembering.{TellsOf}
use Rattle.signed_calls.proofs.Remembered.{tells-swept}
use Rattle.remembering_core.proofs.remembering.Remembering.advance.Goals as goal

pub returns-then-self-moment-clause-tells : goal.returns-then-self-moment-clause-tells
returns-then-self-moment-clause-tells g c = λ notes tells.
    let top : c.args.moment ≡ max c.args.self.now.latest c.args.moment = omega arith in
    subst (λ n. TellsOf (g.N.Nonces.until c.sweep.new.self) (g.N.Nonces.many c.sweep.new.self) notes n) top
    (tells-swept (g.N.Nonces.until c.args.self.now.nonces) (g.N.Nonces.many c.args.self.now.nonces) notes c.args.self.now.latest c.args.moment
    (g.N.Nonces.until c.sweep.new.self) (g.N.Nonces.many c.sweep.new.self) (omega arith) c.sweep.ensures tells)
