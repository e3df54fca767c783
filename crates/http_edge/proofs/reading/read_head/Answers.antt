use Rattle.std.proofs.Common.{◌≡◌, ◌∙◌, sym, ap, arith}
use Rattle.std.specs.List.{fold}
use Rattle.http_edge.specs.declared.held.Arrival.TheVariants.{More, End, Failed, Memory}
use Rattle.http_edge.specs.declared.places.LinePlace.TheVariants.{BlankLines}
use Rattle.http_edge.specs.Steps.{next_line_place}
use Rattle.http_edge.proofs.Growing.{read_none, read_more, arrived_then, place_more}
use Rattle.http_edge.proofs.HeadLines.{no_message_yet, not_behind}
use Rattle.http_edge.proofs.Outcomes.{open_no_message}
use Rattle.http_edge.proofs.reading.read_head.Goals as goal

pub loop-held-init : goal.loop-held-init
loop-held-init g c = record {
  so_far = read_none _ _ _;
  waiting = open_no_message c.args.held.now c.requires.waiting;
  place = c.line_place-place.ensures ∙ ap (fold next_line_place BlankLines) c.as_slice.ensures.value;
  short = c.requires.short;
  enough = omega (arith, c.clamp-enough.ensures);
}

pub loop-held-preserved : goal.loop-held-preserved
loop-held-preserved g c =
    let before = c.loop-held.invariant in
    let arrived = c.in-More.ensures.arrived in
    let seen = c.len-seen.ensures.value in
    let all = c.as_slice-in-loop-held.ensures.value in
    let place : c.line_place-place-in-loop-held.result ≡ fold next_line_place BlankLines c.fill.new.self =
    c.line_place-place-in-loop-held.ensures
    ∙ place_more c.loop-held.held arrived.0.came c.as_slice-in-loop-held.result.now c.len-seen.result c.loop-held.place (all ∙ arrived.0.behind) seen
    before.place
    ∙ ap (fold next_line_place BlankLines) all in
    record {
      so_far = read_more _ _ _ _ _ _ _ _ _ before.so_far arrived;
      waiting = no_message_yet c.fill.new.self (λ e. not_behind _ (sym c.is_behind_head.ensures ∙ c.if-is_behind_head.false) (place ∙ e));
      place = place;
      short = omega (arith, c.if-len-enough.false, c.len-in-loop-held.ensures.value, before.enough);
      enough = before.enough;
    }

pub returns-in-End-clause-arrived : goal.returns-in-End-clause-arrived
returns-in-End-clause-arrived g c = arrived_then End _ _ _ _ _ _ _ _ _ c.loop-held.invariant.so_far c.in-End.ensures.arrived

pub returns-in-Failed-clause-arrived : goal.returns-in-Failed-clause-arrived
returns-in-Failed-clause-arrived g c = arrived_then Failed _ _ _ _ _ _ _ _ _ c.loop-held.invariant.so_far c.in-Failed.ensures.arrived

pub returns-in-Memory-clause-arrived : goal.returns-in-Memory-clause-arrived
returns-in-Memory-clause-arrived g c = arrived_then Memory _ _ _ _ _ _ _ _ _ c.loop-held.invariant.so_far c.in-Memory.ensures.arrived

pub returns-then-is_behind_head-clause-arrived : goal.returns-then-is_behind_head-clause-arrived
returns-then-is_behind_head-clause-arrived g c = arrived_then More _ _ _ _ _ _ _ _ _ c.loop-held.invariant.so_far c.in-More.ensures.arrived
