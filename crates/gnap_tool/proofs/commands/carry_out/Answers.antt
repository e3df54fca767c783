use Rattle.std.proofs.Common.{ℕ, List, Option, subst, refl}
use Rattle.std.specs.Prelude.{IfSome}
use Rattle.serving.specs.ServiceEnds.{HaveServedJust}
use Rattle.command_words.specs.declared.command.Command.TheVariants.{Sign}
use Rattle.gnap_tool.specs.Runs.{CarriesOut}
use Rattle.world_uses.proofs.Uses.{nothing_used}
use Rattle.gnap_tool.proofs.EachCommand.{carried_as, used_as, quota_as}
use Rattle.gnap_tool.proofs.commands.carry_out.Goals as goal

pub returns-in-Sign-clause-carried : goal.returns-in-Sign-clause-carried
returns-in-Sign-clause-carried g c =
    let N : Option (List ℕ) → Type 0 = λ nonce.
    CarriesOut (Sign c.in-Sign.config c.in-Sign.key c.in-Sign.created c.in-Sign.file nonce) (g.W.World.text c.args.world.now)
    (g.W.World.state c.args.world.now) (g.W.World.state c.sign.new.world) (g.O.Device.told c.args.out.now) (g.O.Device.told c.sign.new.out) c.sign.result in
    carried_as _ _ _ _ _ c.in-Sign.is _ _ _ (subst N c.as_ref-nonce.ensures.value c.sign.ensures.carried)

pub returns-in-Rs-clause-carried : goal.returns-in-Rs-clause-carried
returns-in-Rs-clause-carried g c = carried_as _ _ _ _ _ c.in-Rs.is _ _ _ (c.serve_rs.ensures.carried (g.O.Device.told c.args.out.now))

pub returns-in-Hash-clause-carried : goal.returns-in-Hash-clause-carried
returns-in-Hash-clause-carried g c = carried_as _ _ _ _ _ c.in-Hash.is _ _ _ (refl, c.print_hash.ensures.prints)

pub returns-in-Hash-clause-world : goal.returns-in-Hash-clause-world
returns-in-Hash-clause-world g c =
    used_as _ _ _ _ _ c.in-Hash.is (nothing_used (g.W.World.state c.args.world.now) c.print_hash.result c.print_hash.ensures.prints.1)

pub returns-in-Rs-clause-quota : goal.returns-in-Rs-clause-quota
returns-in-Rs-clause-quota g c = λ gives well.
    let P : Option ℕ → Type 0 = λ o. IfSome o (λ quota. HaveServedJust quota (g.W.World.state c.serve_rs.new.world).gears) in
    quota_as _ (g.W.World.state c.args.world.now) (g.W.World.state c.serve_rs.new.world) c.serve_rs.result _ c.in-Rs.is P (c.serve_rs.ensures.quota gives well)
