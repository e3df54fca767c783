use Rattle.std.proofs.Common.{◌∷◌, [], sym, subst, inr, refl}
use Rattle.std.specs.Prelude.{None}
use Rattle.outside.specs.declared.world.Opening.TheVariants.{Gears}
use Rattle.command_inputs.specs.declared.ended.Ended.{Ended}
use Rattle.command_words.specs.declared.command.Service.TheVariants.{Grants, Derivations, Sets}
use Rattle.world_uses.specs.Uses.{UsesWorld}
use Rattle.world_uses.proofs.ServedGears.{done_by}
use Rattle.gnap_tool.proofs.ServedSetups.{grants_used, sets_used, serves_as, service_used}
use Rattle.gnap_tool.proofs.services.serve_setup.Goals as goal

pub returns-in-Grants-clause-served : goal.returns-in-Grants-clause-served
returns-in-Grants-clause-served g c out =
    serves_as Grants _ c.in-Grants.is _ _ _ _ _ _ _ (refl, inr (c.serve_at.result, c.ended_service.ensures, c.serve_at.ensures.served))

pub returns-in-Grants-clause-world : goal.returns-in-Grants-clause-world
returns-in-Grants-clause-world g c =
    let served = c.args.served.now in
    let before = g.W.World.state c.args.world.now in
    let after = g.W.World.state c.serve_at.new.world in
    let U : Ended → Type 0 = λ ended. UsesWorld (Gears served.listen served.workers served.quota ∷ []) None before after ended in
    service_used Grants _ c.in-Grants.is c.args.setup served before after c.ended_service.result
    (subst U (sym c.ended_service.ensures)
    (grants_used c.args.setup served.listen served.workers served.quota before after c.serve_at.result c.serve_at.ensures.served))

pub returns-in-Sets-clause-served : goal.returns-in-Sets-clause-served
returns-in-Sets-clause-served g c out =
    serves_as Sets _ c.in-Sets.is _ _ _ _ _ _ _ (refl, inr (c.serve_sets_at.result, c.ended_service-in-Sets.ensures, c.serve_sets_at.ensures.served))

pub returns-in-Sets-clause-world : goal.returns-in-Sets-clause-world
returns-in-Sets-clause-world g c =
    let served = c.args.served.now in
    let before = g.W.World.state c.args.world.now in
    let after = g.W.World.state c.serve_sets_at.new.world in
    let U : Ended → Type 0 = λ ended. UsesWorld (Gears served.listen served.workers served.quota ∷ []) None before after ended in
    service_used Sets _ c.in-Sets.is c.args.setup served before after c.ended_service-in-Sets.result
    (subst U (sym c.ended_service-in-Sets.ensures)
    (sets_used c.args.setup served.listen served.workers served.quota before after c.serve_sets_at.result c.serve_sets_at.ensures.served))

pub returns-in-Derivations-clause-served : goal.returns-in-Derivations-clause-served
returns-in-Derivations-clause-served g c out =
    serves_as (Derivations c.in-Derivations.pairs) _ c.in-Derivations.is _ _ _ _ _ _ _ (c.serve_deriving.ensures.served out)

pub returns-in-Derivations-clause-world : goal.returns-in-Derivations-clause-world
returns-in-Derivations-clause-world g c =
    service_used (Derivations c.in-Derivations.pairs) _ c.in-Derivations.is c.args.setup c.args.served.now (g.W.World.state c.args.world.now)
    (g.W.World.state c.serve_deriving.new.world) c.serve_deriving.result c.serve_deriving.ensures.world

pub returns-in-Grants-clause-quota : goal.returns-in-Grants-clause-quota
returns-in-Grants-clause-quota g c = λ gives. done_by c.serve_at.result c.ended_service.result _ c.ended_service.ensures (c.serve_at.ensures.quota gives)

pub returns-in-Sets-clause-quota : goal.returns-in-Sets-clause-quota
returns-in-Sets-clause-quota g c = λ gives.
    done_by c.serve_sets_at.result c.ended_service-in-Sets.result _ c.ended_service-in-Sets.ensures (c.serve_sets_at.ensures.quota gives)
