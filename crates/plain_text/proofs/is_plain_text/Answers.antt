use Rattle.std.proofs.Common.{◌+◌, ◌-◌, ◌≤◌, length, sym, ◌∙◌, arith}
use Rattle.std.proofs.lemmas.Bool.{eqb-true}
use Rattle.std.proofs.lemmas.Simd.{none_from_empty_mask}
use Rattle.plain_text.specs.PlainText.{is_stop}
use Rattle.plain_text.proofs.PlainText.{run_more, whole_run}
use Rattle.plain_text.proofs.is_plain_text.Goals as goal

pub chunks-preserved : goal.chunks-preserved
chunks-preserved c =
    let bs = c.args.bytes.now in
    let i = c.chunks.len in
    let room : i + 16 ≤ length bs = omega arith in
    (room, run_more bs i 16 room c.chunks.invariant.1 (none_from_empty_mask is_stop bs i 16 0 room (sym c.stops.ensures ∙ c.if-stops-ne0.false)))

pub returns : goal.returns
returns c none_stops =
    let bs = c.args.bytes.now in
    let last = length bs - 16 in
    let room : last + 16 ≤ length bs = omega arith in
    let none = none_from_empty_mask is_stop bs last 16 0 room (sym c.stops-2.ensures ∙ eqb-true _ _ none_stops) in
    whole_run bs c.chunks.len (omega arith) c.chunks.invariant.1 (λ k from below. none k (omega arith) (omega arith))
