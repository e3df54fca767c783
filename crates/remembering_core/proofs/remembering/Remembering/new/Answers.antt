use Rattle.std.specs.Prelude.{[]}
use Rattle.std.specs.declared.option.Option.TheVariants.{None}
use Rattle.signed_calls.proofs.Remembered.{tells-none}
use Rattle.signed_calls.proofs.RememberingSteps.{signed-nil}
use Rattle.grant_machine.specs.Gnap.{SignedFits}
use Rattle.remembering_core.proofs.Facts.{tells_equal}
use Rattle.remembering_core.proofs.remembering.Remembering.new.Goals as goal

pub returns-clause-empty : goal.returns-clause-empty
returns-clause-empty g c = λ within none zero.
    let until = g.N.Nonces.until c.args.nonces in
    let many = g.N.Nonces.many c.args.nonces in
    signed-nil SignedFits (g.C.Core.stands c.args.core) until many (g.C.Core.rules c.args.core) within
    (tells_equal (λ key nonce. None) until (λ moment. 0) many [] 0 none zero tells-none)
