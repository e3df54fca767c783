use Rattle.std.proofs.Common.{ap}
use Rattle.outside.specs.Worlds.{WorldState}
use Rattle.rs_edge.specs.RsServices.{not_linked}
use Rattle.rs_edge.proofs.OneGear.{as_told, served_failed, served_well, unstarted, just_back}
use Rattle.rs_edge.proofs.service.serve_resources_at.Goals as goal

pub returns-in-Err-clause-served : goal.returns-in-Err-clause-served
returns-in-Err-clause-served g c = not_linked c.in-Err.fault c.in-Err.ensures.state c.in-Err.ensures.link

pub returns-in-Err-start_gears-clause-served : goal.returns-in-Err-start_gears-clause-served
returns-in-Err-start_gears-clause-served g c = unstarted g.K.RequestGuard.guards c.args.setup.now
    (g.K.RequestGuard.kept c.args.guard.now) c.args.listen.now c.args.server.now c.args.quota _ _ _ _ _ c.in-Err-start_gears.fault
    c.in-Ok.ensures.state c.in-Err-start_gears.ensures.state c.in-Err-start_gears.ensures.gears c.in-Ok.ensures.link c.close_link.ensures.state

pub returns-then-failed-clause-served : goal.returns-then-failed-clause-served
returns-then-failed-clause-served g c = served_failed g.K.RequestGuard.guards c.args.setup.now
    (g.K.RequestGuard.kept c.args.guard.now) _ c.args.listen.now c.args.server.now c.args.quota _ _ _ _ _ _ _
    c.in-Ok.ensures.state c.in-Ok-start_gears.ensures.state c.stop_gears.ensures.state c.close_link-in-Ok-start_gears.ensures.state
    (as_told _ _ _ _ _ _ _ _ c.if-failed.true c.serve_gear-gears.ensures.served)

pub returns-else-failed-clause-served : goal.returns-else-failed-clause-served
returns-else-failed-clause-served g c = served_well g.K.RequestGuard.guards c.args.setup.now
    (g.K.RequestGuard.kept c.args.guard.now) _ c.args.listen.now c.args.server.now c.args.quota _ _ _ _ _ _ _
    c.in-Ok.ensures.state c.in-Ok-start_gears.ensures.state c.stop_gears.ensures.state c.close_link-in-Ok-start_gears.ensures.state _
    (as_told _ _ _ _ _ _ _ _ c.if-failed.false c.serve_gear-gears.ensures.served)

pub returns-else-failed-clause-quota : goal.returns-else-failed-clause-quota
returns-else-failed-clause-quota g c = λ gives.
    just_back c.args.quota _ _ (g.W.World.state c.stop_gears.new.self) _ (ap (λ (s : WorldState). s.gears) c.stop_gears.ensures.state)
    c.close_link-in-Ok-start_gears.ensures.state
    (c.serve_gear-gears.ensures.just c.args.quota (c.in-Ok-start_gears.ensures.quota gives) c.if-failed.false)
