use Rattle.std.proofs.Common.{arith, refl}
use Rattle.outside.specs.declared.world.WorldFault.TheVariants.{OutOfMemory}
use Rattle.as_service.specs.DerivedServices.{not_started}
use Rattle.as_service.proofs.ServedDeriving.{deriving_service}
use Rattle.as_service.proofs.deriving_service.serve_deriving_at.Goals as goal

pub returns-in_default-clause-served : goal.returns-in_default-clause-served
returns-in_default-clause-served g c = not_started OutOfMemory refl refl

pub returns-in_default-new-clause-served : goal.returns-in_default-new-clause-served
returns-in_default-new-clause-served g c = not_started OutOfMemory refl refl

pub returns-clause-served : goal.returns-clause-served
returns-clause-served g c =
    deriving_service c.args.pairs c.args.setup _ _ c.args.address.now c.args.workers c.args.quota _ _ c.serve_front_at.result c.new-server.ensures
    c.in-Ok-new.ensures.ok
    c.requires.few (omega (arith, c.ranges.quota))
    c.what_holds.ensures c.ends_with_its_term.ensures c.serve_front_at.ensures.served
