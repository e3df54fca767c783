use Rattle.std.proofs.Common.{rules, refl}
use Rattle.rs_edge.proofs.Turning.{over_link}
use Rattle.rs_edge.proofs.connections.serve_resources.Goals as goal

pub returns : goal.returns
returns g c =
    let serves = c.serve_connection.ensures (g.L.Link.link c.args.link.now, g.K.RequestGuard.kept c.args.guard.now) (refl, refl) in
    let same_link = serves.leads.same_link in
    let same_guard = serves.leads.same_guard in
    over_link g.L.Link.link g.K.RequestGuard.kept g.K.RequestGuard.guards c.args.setup.now _ c.serve_connection.new.backend _ _ _ _ _ _
    (search rules) (search rules) serves
