use Rattle.std.proofs.Common.{subst}
use Rattle.outside.specs.Outside.{served_of}
use Rattle.serving.specs.Workers.{WorkerState, IsSameWorker, HasServedOne}
use Rattle.serving.proofs.WorkerLemmas.{gave_one, one_out, keeps_on, same_on, served_on}
use Rattle.serving.proofs.worker.Worker.turn.Goals as goal

pub leave-requires : goal.leave-requires
leave-requires g c =
    let w : WorkerState _ _ _ = record { front = c.self.inside.front.now; station = c.self.inside.station; gear = g.G.Counted.state c.self.inside.gear } in
    let gave = gave_one w.gear (g.G.Counted.state c.accept.new.self) c.in-Ok-Some.field-0 c.in-Ok-Some.conn c.in-Ok-Some.field-0-is
    c.in-Ok-Some.ensures.state in
    one_out g.C.M.Machine.law (g.F.Front.session c.self.inside.front.now) (g.F.Front.rules c.self.inside.front.now) w c.self.invariant
    (g.G.Counted.state c.accept.new.self) (g.G.Counted.state c.serve.new.gear) (g.G.Counted.state c.serve.new.gear) c.serve.new.desk
    (served_of (g.G.Conn.Device.told c.serve.new.conn) (g.G.Conn.Device.faults c.serve.new.conn))
    gave.0 gave.1 c.serve.ensures.home c.serve.ensures.number c.serve.ensures.serves

pub invariant_of-self-2 : goal.invariant_of-self-2
invariant_of-self-2 g c =
    let w : WorkerState _ _ _ = record { front = c.self.inside.front.now; station = c.self.inside.station; gear = g.G.Counted.state c.self.inside.gear } in
    let gave = gave_one w.gear (g.G.Counted.state c.accept.new.self) c.in-Ok-Some.field-0 c.in-Ok-Some.conn c.in-Ok-Some.field-0-is
    c.in-Ok-Some.ensures.state in
    keeps_on g.C.M.Machine.law (g.F.Front.session c.self.inside.front.now) (g.F.Front.rules c.self.inside.front.now) w c.self.invariant
    (g.G.Counted.state c.accept.new.self) (g.G.Counted.state c.serve.new.gear) (g.G.Counted.state c.leave.new.self) c.serve.new.desk
    (served_of (g.G.Conn.Device.told c.serve.new.conn) (g.G.Conn.Device.faults c.serve.new.conn))
    gave.0 gave.1 c.serve.ensures.home c.serve.ensures.number c.serve.ensures.serves c.leave.ensures

pub returns-clause-same : goal.returns-clause-same
returns-clause-same g c =
    let w : WorkerState _ _ _ = record { front = c.self.inside.front.now; station = c.self.inside.station; gear = g.G.Counted.state c.self.inside.gear } in
    let gave = gave_one w.gear (g.G.Counted.state c.accept.new.self) c.in-Ok-Some.field-0 c.in-Ok-Some.conn c.in-Ok-Some.field-0-is
    c.in-Ok-Some.ensures.state in
    subst (λ v. IsSameWorker v (record { front = c.self.inside.front.now; station = c.serve.new.desk; gear = g.G.Counted.state c.leave.new.self }))
    c.self.view_is (same_on g.C.M.Machine.law (g.F.Front.session c.self.inside.front.now) (g.F.Front.rules c.self.inside.front.now) w c.self.invariant
    (g.G.Counted.state c.accept.new.self) (g.G.Counted.state c.serve.new.gear) (g.G.Counted.state c.leave.new.self) c.serve.new.desk
    (served_of (g.G.Conn.Device.told c.serve.new.conn) (g.G.Conn.Device.faults c.serve.new.conn))
    gave.0 gave.1 c.serve.ensures.home c.serve.ensures.number c.serve.ensures.serves c.leave.ensures)

pub returns-clause-more : goal.returns-clause-more
returns-clause-more g c = λ _.
    let w : WorkerState _ _ _ = record { front = c.self.inside.front.now; station = c.self.inside.station; gear = g.G.Counted.state c.self.inside.gear } in
    let gave = gave_one w.gear (g.G.Counted.state c.accept.new.self) c.in-Ok-Some.field-0 c.in-Ok-Some.conn c.in-Ok-Some.field-0-is
    c.in-Ok-Some.ensures.state in
    subst (λ (v : WorkerState _ _ _). HasServedOne v.gear (g.G.Counted.state c.leave.new.self)) c.self.view_is
    (served_on g.C.M.Machine.law (g.F.Front.session c.self.inside.front.now) (g.F.Front.rules c.self.inside.front.now) w c.self.invariant
    (g.G.Counted.state c.accept.new.self) (g.G.Counted.state c.serve.new.gear) (g.G.Counted.state c.leave.new.self) c.serve.new.desk
    (served_of (g.G.Conn.Device.told c.serve.new.conn) (g.G.Conn.Device.faults c.serve.new.conn))
    gave.0 gave.1 c.serve.ensures.home c.serve.ensures.number c.serve.ensures.serves c.leave.ensures)
