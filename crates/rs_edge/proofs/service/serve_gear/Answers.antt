use Rattle.std.proofs.Common.{ap, subst, sym, arith}
use Rattle.outside.specs.Gears.{IsUnused}
use Rattle.outside.specs.Links.{LinkState}
use Rattle.rs_edge.proofs.OneGear.{gear_served, gear_served_just}
use Rattle.rs_edge.proofs.service.serve_gear.Goals as goal

pub serve_door-requires-clause-gear : goal.serve_door-requires-clause-gear
serve_door-requires-clause-gear g c lifetimes outlive =
    subst (λ x. IsUnused (g.G.Counted.state x)) (sym c.index_mut-gear.ensures.value)
    (c.requires.unused 0 c.index_mut-gear.result.now (omega (arith, c.requires.one)))

pub serve_door-requires-clause-link : goal.serve_door-requires-clause-link
serve_door-requires-clause-link g c lifetimes outlive = ap (λ (l : LinkState). l.asked) c.requires.link

pub returns-clause-served : goal.returns-clause-served
returns-clause-served g c = gear_served g.K.RequestGuard.guards c.args.setup.now (g.K.RequestGuard.kept c.args.guard.now)
    (g.K.RequestGuard.kept c.serve_door.new.guard)
    (g.L.Link.link c.serve_door.new.link) g.G.Counted.state c.args.gears.items c.index_mut-gear.result.now c.serve_door.new.gear
    c.has_failed-failed.result c.requires.one c.index_mut-gear.ensures.value c.requires.unused c.serve_door.ensures.account c.serve_door.ensures.out
    c.serve_door.ensures.done c.has_failed-failed.ensures

pub returns-clause-just : goal.returns-clause-just
returns-clause-just g c = λ quota full unfailed. gear_served_just g.G.Counted.state c.args.gears.items c.index_mut-gear.result.now c.serve_door.new.gear
    c.has_failed-failed.result quota c.requires.one c.index_mut-gear.ensures.value c.requires.unused full c.serve_door.ensures.done c.has_failed-failed.ensures
    unfailed
