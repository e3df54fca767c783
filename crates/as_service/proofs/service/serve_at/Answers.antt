use Rattle.std.proofs.Common.{arith, refl}
use Rattle.outside.specs.declared.world.WorldFault.TheVariants.{OutOfMemory}
use Rattle.as_service.specs.Services.{not_started}
use Rattle.as_service.proofs.FewEntries.{service_holds}
use Rattle.as_service.proofs.service.serve_at.Goals as goal

pub returns-in_default-clause-served : goal.returns-in_default-clause-served
returns-in_default-clause-served g c = not_started OutOfMemory refl refl

pub returns-in_default-new-clause-served : goal.returns-in_default-new-clause-served
returns-in_default-new-clause-served g c = not_started OutOfMemory refl refl

pub returns-clause-served : goal.returns-clause-served
returns-clause-served g c =
    service_holds c.args.setup _ c.args.address.now c.args.workers c.args.quota _ _ c.serve_front_at.result c.in-Ok-new.ensures.ok c.requires.few
    (omega (arith, c.ranges.quota))
    c.what_holds.ensures c.serve_front_at.ensures.served
