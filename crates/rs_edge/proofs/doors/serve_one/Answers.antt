use Rattle.outside.specs.Outside.{served_of}
use Rattle.serving.proofs.WorkerLemmas.{gave_one}
use Rattle.rs_edge.proofs.Accounts.{one_out, account_next, served_one, same_out}
use Rattle.rs_edge.proofs.doors.serve_one.Goals as goal

pub leave-requires : goal.leave-requires
leave-requires g c =
    let gave = gave_one (g.G.Counted.state c.args.gear.now) (g.G.Counted.state c.accept.new.self) c.in-Ok-Some.field-0 c.in-Ok-Some.conn c.in-Ok-Some.field-0-is
    c.in-Ok-Some.ensures.state in
    one_out g.K.RequestGuard.guards c.args.setup.now (g.G.Counted.state c.args.gear.now) (g.G.Counted.state c.accept.new.self)
    (g.G.Counted.state c.serve_resources.new.gear) (g.G.Counted.state c.serve_resources.new.gear)
    (g.L.Link.link c.args.link.now) (g.L.Link.link c.serve_resources.new.link) (g.K.RequestGuard.kept c.args.guard.now)
    (g.K.RequestGuard.kept c.serve_resources.new.guard)
    (served_of (g.G.Conn.Device.told c.serve_resources.new.conn) (g.G.Conn.Device.faults c.serve_resources.new.conn)) c.serve_resources.result
    gave.1 gave.0 c.serve_resources.ensures

pub returns-clause-account : goal.returns-clause-account
returns-clause-account g c =
    let gave = gave_one (g.G.Counted.state c.args.gear.now) (g.G.Counted.state c.accept.new.self) c.in-Ok-Some.field-0 c.in-Ok-Some.conn c.in-Ok-Some.field-0-is
    c.in-Ok-Some.ensures.state in
    account_next g.K.RequestGuard.guards c.args.setup.now (g.G.Counted.state c.args.gear.now) (g.G.Counted.state c.accept.new.self)
    (g.G.Counted.state c.serve_resources.new.gear) (g.G.Counted.state c.leave.new.self)
    (g.L.Link.link c.args.link.now) (g.L.Link.link c.serve_resources.new.link) (g.K.RequestGuard.kept c.args.guard.now)
    (g.K.RequestGuard.kept c.serve_resources.new.guard)
    (served_of (g.G.Conn.Device.told c.serve_resources.new.conn) (g.G.Conn.Device.faults c.serve_resources.new.conn)) c.serve_resources.result
    gave.1 gave.0 c.serve_resources.ensures c.leave.ensures

pub returns-clause-out : goal.returns-clause-out
returns-clause-out g c =
    let gave = gave_one (g.G.Counted.state c.args.gear.now) (g.G.Counted.state c.accept.new.self) c.in-Ok-Some.field-0 c.in-Ok-Some.conn c.in-Ok-Some.field-0-is
    c.in-Ok-Some.ensures.state in
    same_out g.K.RequestGuard.guards c.args.setup.now (g.G.Counted.state c.args.gear.now) (g.G.Counted.state c.accept.new.self)
    (g.G.Counted.state c.serve_resources.new.gear) (g.G.Counted.state c.leave.new.self)
    (g.L.Link.link c.args.link.now) (g.L.Link.link c.serve_resources.new.link) (g.K.RequestGuard.kept c.args.guard.now)
    (g.K.RequestGuard.kept c.serve_resources.new.guard)
    (served_of (g.G.Conn.Device.told c.serve_resources.new.conn) (g.G.Conn.Device.faults c.serve_resources.new.conn)) c.serve_resources.result
    gave.1 gave.0 c.serve_resources.ensures c.leave.ensures

pub returns-clause-more : goal.returns-clause-more
returns-clause-more g c = λ _.
    let gave = gave_one (g.G.Counted.state c.args.gear.now) (g.G.Counted.state c.accept.new.self) c.in-Ok-Some.field-0 c.in-Ok-Some.conn c.in-Ok-Some.field-0-is
    c.in-Ok-Some.ensures.state in
    served_one g.K.RequestGuard.guards c.args.setup.now (g.G.Counted.state c.args.gear.now) (g.G.Counted.state c.accept.new.self)
    (g.G.Counted.state c.serve_resources.new.gear) (g.G.Counted.state c.leave.new.self)
    (g.L.Link.link c.args.link.now) (g.L.Link.link c.serve_resources.new.link) (g.K.RequestGuard.kept c.args.guard.now)
    (g.K.RequestGuard.kept c.serve_resources.new.guard)
    (served_of (g.G.Conn.Device.told c.serve_resources.new.conn) (g.G.Conn.Device.faults c.serve_resources.new.conn)) c.serve_resources.result
    gave.1 gave.0 c.serve_resources.ensures c.leave.ensures
