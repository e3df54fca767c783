use Rattle.std.proofs.Common.{ℕ, Option, refl}
use Rattle.std.specs.Prelude.{IfSome}
use Rattle.serving.specs.ServiceEnds.{HaveServedJust}
use Rattle.world_uses.proofs.Uses.{nothing_used}
use Rattle.gnap_tool.proofs.EachCommand.{carried_as, used_as, quota_as}
use Rattle.gnap_tool.proofs.commands.carry_out_with_workers.Goals as goal

pub returns-in-Serve-clause-carried : goal.returns-in-Serve-clause-carried
returns-in-Serve-clause-carried g c = carried_as _ _ _ _ _ c.in-Serve.is _ _ _ (c.serve.ensures.carried (g.O.Device.told c.args.out.now))

pub returns-in-Load-clause-carried : goal.returns-in-Load-clause-carried
returns-in-Load-clause-carried g c = carried_as _ _ _ _ _ c.in-Load.is _ _ _ (refl, c.print_load.ensures.prints)

pub returns-in-Load-clause-world : goal.returns-in-Load-clause-world
returns-in-Load-clause-world g c =
    used_as _ _ _ _ _ c.in-Load.is (nothing_used (g.W.World.state c.args.world.now) c.print_load.result c.print_load.ensures.prints.1)

pub returns-in-Serve-clause-quota : goal.returns-in-Serve-clause-quota
returns-in-Serve-clause-quota g c = λ gives well.
    let P : Option ℕ → Type 0 = λ o. IfSome o (λ quota. HaveServedJust quota (g.W.World.state c.serve.new.world).gears) in
    quota_as _ (g.W.World.state c.args.world.now) (g.W.World.state c.serve.new.world) c.serve.result _ c.in-Serve.is P (c.serve.ensures.quota gives well)
