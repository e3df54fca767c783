use Rattle.std.proofs.Common.{◌∷◌, [], sym, subst, inr}
use Rattle.std.specs.Prelude.{None}
use Rattle.outside.specs.declared.world.Opening.TheVariants.{Gears, Link}
use Rattle.command_inputs.specs.declared.ended.Ended.{Ended}
use Rattle.world_uses.specs.Uses.{UsesWorld}
use Rattle.world_uses.proofs.ServedGears.{done_by}
use Rattle.gnap_tool.proofs.ServedResources.{resources_used}
use Rattle.gnap_tool.proofs.commands.serve_guarded.Goals as goal

pub returns-clause-served : goal.returns-clause-served
returns-clause-served g c = inr
    (g.K.RequestGuard.kept c.serve_resources_at.new.guard, c.serve_resources_at.result, c.ended_service.ensures, c.serve_resources_at.ensures.served)

pub returns-clause-world : goal.returns-clause-world
returns-clause-world g c =
    let before = g.W.World.state c.args.world.now in
    let after = g.W.World.state c.serve_resources_at.new.world in
    let U : Ended → Type 0 = λ ended. UsesWorld (Link c.args.server.now ∷ Gears c.args.listen.now 1 c.args.quota ∷ []) None before after ended in
    subst U (sym c.ended_service.ensures)
    (resources_used g.K.RequestGuard.guards (g.K.RequestGuard.kept c.args.guard.now) (g.K.RequestGuard.kept c.serve_resources_at.new.guard) c.args.setup.now
    c.args.listen.now c.args.server.now c.args.quota before after c.serve_resources_at.result c.serve_resources_at.ensures.served)

pub returns-clause-quota : goal.returns-clause-quota
returns-clause-quota g c = λ gives. done_by c.serve_resources_at.result c.ended_service.result _ c.ended_service.ensures
    (c.serve_resources_at.ensures.quota gives)
