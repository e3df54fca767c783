use Rattle.std.proofs.Common.{◌≡◌, ℕ, List, length, subst, ◌∙◌}
use Rattle.httparse.specs.Spans.{RequestExceeds}
use Rattle.http_edge.proofs.Fronts.{many_fields, no_room_for}
use Rattle.http_edge.proofs.request_heads.head_of_many_fields.Goals as goal

pub returns-in-Some-Head-clause-front : goal.returns-in-Some-Head-clause-front
returns-in-Some-Head-clause-front c =
    let w : List ℕ = c.args.w.now in
    let some = rw c.in-Some-Head.field-0-is at c.in-Some-Head.ensures.some in
    many_fields w some.1.0 _ c.requires.over some.1.1.reads

pub unreachable-requires : goal.unreachable-requires
unreachable-requires c =
    let n : length c.as_mut_slice.result.now ≡ 5462 = c.as_mut_slice.ensures.len ∙ c.in_ok-room.ensures in
    no_room_for c.args.w.now c.requires.short (subst (λ (n : ℕ). RequestExceeds n c.args.w.now) n c.in-None.ensures.exceeds)
