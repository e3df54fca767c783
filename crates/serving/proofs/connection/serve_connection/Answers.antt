use Rattle.std.proofs.Common.{◌∙◌, sym, arith}
use Rattle.serving.specs.declared.ends.AfterTurn.TheVariants.{MoreMayCome, OutOfMemory, WriteFailed}
use Rattle.serving.proofs.ConnectionLemmas.{next_ok, not_full, served-start, room, closes-end, closes-stop, served-next, ends-last, ends-quota, ends-want, ends-cut}
use Rattle.serving.proofs.connection.serve_connection.Goals as goal

pub loop-held-init : goal.loop-held-init
loop-held-init g c = record {
  few = omega arith;
  so_far = λ p seen. served-start g.W.MessageReader.wire g.W.MessageReader.stays (g.V.TurnTaker.backend_kind c.args.server.now)
      (g.V.TurnTaker.is_turn c.args.server.now) _ p _ _ _ _
      c.requires.untouched c.hold_none-held.ensures seen;
}

pub turn-requires : goal.turn-requires
turn-requires g c =
    let inv = c.loop-held.invariant in
    room g.W.MessageReader.wire g.W.MessageReader.stays (g.V.TurnTaker.backend_kind c.args.server.now) (g.V.TurnTaker.is_turn c.args.server.now)
    c.loop-held.place inv.few
    c.args.backend.now c.loop-held.backend _ _ _ _ _ c.requires.room inv.so_far

pub returns-in-Ok-None : goal.returns-in-Ok-None
returns-in-Ok-None g c p seen =
    let W = g.W.MessageReader.wire in
    let K = g.V.TurnTaker.backend_kind c.args.server.now in
    let I = g.V.TurnTaker.is_turn c.args.server.now in
    let inv = c.loop-held.invariant in
    let so_far = inv.so_far p seen in
    closes-end W g.W.MessageReader.stays K I c.loop-held.place inv.few _ p _ c.loop-held.backend _ _ (g.G.Counted.state c.loop-held.gear) _
    (g.S.Device.told c.next_message.new.source) _ _ 0 _ _ _ so_far
    (next_ok W _ _ _ _ _ _ c.in-Ok-None.field-0-is c.in-Ok-None.ensures.reads)

pub returns-in-Err : goal.returns-in-Err
returns-in-Err g c p seen =
    let W = g.W.MessageReader.wire in
    let K = g.V.TurnTaker.backend_kind c.args.server.now in
    let I = g.V.TurnTaker.is_turn c.args.server.now in
    let inv = c.loop-held.invariant in
    let so_far = inv.so_far p seen in
    closes-stop W g.W.MessageReader.stays K I c.loop-held.place inv.few _ p _ c.loop-held.backend _ _ (g.G.Counted.state c.loop-held.gear) _
    (g.S.Device.told c.next_message.new.source) _ _
    (g.S.Device.faults c.next_message.new.source) _ _ _ so_far c.in-Err.why c.in-Err.ensures.reads c.in-Err.ensures.cause c.stop.result c.stop.ensures

pub returns-then-place-eq-LAST_PLACE : goal.returns-then-place-eq-LAST_PLACE
returns-then-place-eq-LAST_PLACE g c p seen =
    let W = g.W.MessageReader.wire in
    let K = g.V.TurnTaker.backend_kind c.args.server.now in
    let I = g.V.TurnTaker.is_turn c.args.server.now in
    let inv = c.loop-held.invariant in
    let so_far = inv.so_far p seen in
    let t = c.in-MoreMayCome.ensures so_far.past_now (K.sees _ _ _ _ _ so_far.leads) in
    ends-quota W g.W.MessageReader.stays K I c.loop-held.place inv.few _ p _ _ _ _ _ _ _ _ _ _ _ _ _ so_far c.in-Ok-Some.message
    (next_ok W _ _ _ _ _ _ c.in-Ok-Some.field-0-is c.in-Ok-Some.ensures.reads) c.in-Ok-Some.ensures.cause c.closes-last.result c.closes-last.ensures MoreMayCome
    t c.if-place-eq-LAST_PLACE.true t.follows t.written.0

pub returns-then-last : goal.returns-then-last
returns-then-last g c p seen =
    let W = g.W.MessageReader.wire in
    let K = g.V.TurnTaker.backend_kind c.args.server.now in
    let I = g.V.TurnTaker.is_turn c.args.server.now in
    let inv = c.loop-held.invariant in
    let so_far = inv.so_far p seen in
    let t = c.in-MoreMayCome.ensures so_far.past_now (K.sees _ _ _ _ _ so_far.leads) in
    ends-last W g.W.MessageReader.stays K I c.loop-held.place inv.few _ p _ _ _ _ _ _ _ _ _ _ _ _ _ so_far c.in-Ok-Some.message
    (next_ok W _ _ _ _ _ _ c.in-Ok-Some.field-0-is c.in-Ok-Some.ensures.reads) c.in-Ok-Some.ensures.cause c.closes-last.result c.closes-last.ensures MoreMayCome
    t c.if-last.true c.if-place-eq-LAST_PLACE.false t.follows t.written.0

pub returns-in-OutOfMemory : goal.returns-in-OutOfMemory
returns-in-OutOfMemory g c p seen =
    let W = g.W.MessageReader.wire in
    let K = g.V.TurnTaker.backend_kind c.args.server.now in
    let I = g.V.TurnTaker.is_turn c.args.server.now in
    let inv = c.loop-held.invariant in
    let so_far = inv.so_far p seen in
    let t = c.in-OutOfMemory.ensures so_far.past_now (K.sees _ _ _ _ _ so_far.leads) in
    ends-want W g.W.MessageReader.stays K I c.loop-held.place inv.few _ p _ _ _ _ _ _ _ _ _ _ _ _ _ so_far c.in-Ok-Some.message
    (next_ok W _ _ _ _ _ _ c.in-Ok-Some.field-0-is c.in-Ok-Some.ensures.reads) c.in-Ok-Some.ensures.cause c.closes-last.result c.closes-last.ensures OutOfMemory
    t t.follows t.written.0

pub returns-in-WriteFailed : goal.returns-in-WriteFailed
returns-in-WriteFailed g c p seen =
    let W = g.W.MessageReader.wire in
    let K = g.V.TurnTaker.backend_kind c.args.server.now in
    let I = g.V.TurnTaker.is_turn c.args.server.now in
    let inv = c.loop-held.invariant in
    let so_far = inv.so_far p seen in
    let t = c.in-WriteFailed.ensures so_far.past_now (K.sees _ _ _ _ _ so_far.leads) in
    ends-cut W g.W.MessageReader.stays K I c.loop-held.place inv.few _ p _ _ _ _ _ _ _ _ _ _ _ _ _ so_far c.in-Ok-Some.message
    (next_ok W _ _ _ _ _ _ c.in-Ok-Some.field-0-is c.in-Ok-Some.ensures.reads) c.in-Ok-Some.ensures.cause c.closes-last.result c.closes-last.ensures WriteFailed
    t t.written.0.0 t.written.0.1 t.written.0.2 t.written.1

pub loop-held-preserved : goal.loop-held-preserved
loop-held-preserved g c = record {
  few = (
      let isnt = not_full _ c.loop-held.place (sym c.closes-last.ensures ∙ c.if-last.false) in
      let few = c.loop-held.invariant.few in
      omega (arith, isnt, few));
  so_far = λ p seen.
      let W = g.W.MessageReader.wire in
      let K = g.V.TurnTaker.backend_kind c.args.server.now in
      let I = g.V.TurnTaker.is_turn c.args.server.now in
      let inv = c.loop-held.invariant in
      let so_far = inv.so_far p seen in
      let t = c.in-MoreMayCome.ensures so_far.past_now (K.sees _ _ _ _ _ so_far.leads) in
      served-next W g.W.MessageReader.stays K I c.loop-held.place inv.few _ p _ _ _ _ _ _ _ _ _ _ _ _ _ so_far c.in-Ok-Some.message
      (next_ok W _ _ _ _ _ _ c.in-Ok-Some.field-0-is c.in-Ok-Some.ensures.reads) c.in-Ok-Some.ensures.cause c.closes-last.result c.closes-last.ensures
      MoreMayCome t c.if-last.false t.follows t.written.0 t.written.1;
}
