use Rattle.rs_edge.proofs.CachedTurns.{serves_cached}
use Rattle.rs_edge.proofs.cached_connections.serve_cached.Goals as goal

pub returns : goal.returns
returns g c = serves_cached c.args.setup.now (g.L.Link.link c.args.link.now) (g.L.Link.link c.serve_resources.new.link) c.args.cache.now
    c.serve_resources.new.guard (g.G.Counted.state c.args.gear.now) (g.G.Counted.state c.serve_resources.new.gear) _ _ c.serve_resources.ensures
