use Rattle.std.proofs.Common.{refl}
use Rattle.outside.specs.declared.world.WorldFault.TheVariants.{OutOfMemory}
use Rattle.rs_facing.specs.SetServices.{not_started}
use Rattle.rs_facing.proofs.SetsServed.{sets_hold}
use Rattle.rs_facing.proofs.service.serve_sets_at.Goals as goal

pub returns-in_default-clause-served : goal.returns-in_default-clause-served
returns-in_default-clause-served g c = not_started OutOfMemory refl refl

pub returns-in_default-new-clause-served : goal.returns-in_default-new-clause-served
returns-in_default-new-clause-served g c = not_started OutOfMemory refl refl

pub returns-clause-served : goal.returns-clause-served
returns-clause-served g c =
    sets_hold c.args.setup _ c.args.address.now c.args.workers c.args.quota _ _ c.serve_front_at.result c.in-Ok-new.ensures.ok
    c.set_histories_hold.ensures c.serve_front_at.ensures.served
