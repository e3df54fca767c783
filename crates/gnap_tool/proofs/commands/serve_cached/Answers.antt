use Rattle.std.proofs.Common.{inr, refl}
use Rattle.gnap_tool.proofs.ServedResources.{unserved, unserved_used, with_cache}
use Rattle.command_inputs.specs.declared.ended.Ended.TheVariants.{Memory}
use Rattle.gnap_tool.proofs.commands.serve_cached.Goals as goal

pub returns-in-Ok-clause-served : goal.returns-in-Ok-clause-served
returns-in-Ok-clause-served g c = with_cache c.args.setup.now c.args.listen.now c.args.server.now c.args.quota c.args.cache c.in-Some.capacity c.in-Ok.guard
    (g.W.World.state c.args.world.now) (g.W.World.state c.serve_guarded-in-Ok.new.world) c.serve_guarded-in-Ok.result c.in-Some.is c.in-Ok.ensures
    c.serve_guarded-in-Ok.ensures.served

pub returns-in-Err-clause-served : goal.returns-in-Err-clause-served
returns-in-Err-clause-served g c = unserved c.args.setup.now c.args.listen.now c.args.server.now c.args.quota c.args.cache (g.W.World.state c.args.world.now)
    Memory (inr refl)

pub returns-in-Err-clause-world : goal.returns-in-Err-clause-world
returns-in-Err-clause-world g c = unserved_used c.args.listen.now c.args.server.now c.args.quota (g.W.World.state c.args.world.now)
