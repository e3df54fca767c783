use Rattle.std.proofs.Common.{refl, sym, subst}
use Rattle.serving.specs.declared.ends.ConnectionEnd.TheVariants as closed
use Rattle.serving.specs.Reading.{Stops, truncated, failed, refused, refused_cut, starved, starved_cut}
use Rattle.serving.proofs.connection.stop.Goals as goal

pub returns-in-Truncated : goal.returns-in-Truncated
returns-in-Truncated g c =
    subst (λ w. Stops g.W.MessageReader.wire (g.S.Device.told c.args.conn.now) (g.S.Device.told c.args.conn.now) (g.S.Device.faults c.args.conn.now)
    (g.S.Device.faults c.args.conn.now) w closed.Truncated) (sym c.in-Truncated.is)
    (truncated refl refl)

pub returns-in-Failed : goal.returns-in-Failed
returns-in-Failed g c =
    subst (λ w. Stops g.W.MessageReader.wire (g.S.Device.told c.args.conn.now) (g.S.Device.told c.args.conn.now) (g.S.Device.faults c.args.conn.now)
    (g.S.Device.faults c.args.conn.now) w closed.ReadFault) (sym c.in-Failed.is)
    (failed refl refl)

pub returns-in-Ok : goal.returns-in-Ok
returns-in-Ok g c =
    subst (λ w. Stops g.W.MessageReader.wire (g.S.Device.told c.args.conn.now) (g.S.Device.told c.write_refusal.new.out) (g.S.Device.faults c.args.conn.now)
    (g.S.Device.faults c.write_refusal.new.out) w (closed.Refused c.in-Refused.fault)) (sym c.in-Refused.is)
    (refused c.in-Refused.fault c.in-Ok.ensures.sent c.in-Ok.ensures.cause.same)

pub returns-in-Err : goal.returns-in-Err
returns-in-Err g c =
    subst (λ w. Stops g.W.MessageReader.wire (g.S.Device.told c.args.conn.now) (g.S.Device.told c.write_refusal.new.out) (g.S.Device.faults c.args.conn.now)
    (g.S.Device.faults c.write_refusal.new.out) w closed.WriteFault) (sym c.in-Refused.is)
    (refused_cut c.in-Refused.fault c.in-Err.ensures.sent.0 c.in-Err.ensures.sent.1 c.in-Err.ensures.sent.2 c.in-Err.ensures.cause.failed)

pub returns-in-Ok-write_starved : goal.returns-in-Ok-write_starved
returns-in-Ok-write_starved g c =
    subst (λ w. Stops g.W.MessageReader.wire (g.S.Device.told c.args.conn.now) (g.S.Device.told c.write_starved.new.out) (g.S.Device.faults c.args.conn.now)
    (g.S.Device.faults c.write_starved.new.out) w closed.Memory) (sym c.in-OutOfMemory.is)
    (starved c.in-Ok-write_starved.ensures.sent c.in-Ok-write_starved.ensures.cause.same)

pub returns-in-Err-write_starved : goal.returns-in-Err-write_starved
returns-in-Err-write_starved g c =
    subst (λ w. Stops g.W.MessageReader.wire (g.S.Device.told c.args.conn.now) (g.S.Device.told c.write_starved.new.out) (g.S.Device.faults c.args.conn.now)
    (g.S.Device.faults c.write_starved.new.out) w closed.WriteFault) (sym c.in-OutOfMemory.is)
    (starved_cut c.in-Err-write_starved.ensures.sent.0 c.in-Err-write_starved.ensures.sent.1 c.in-Err-write_starved.ensures.sent.2
    c.in-Err-write_starved.ensures.cause.failed)
