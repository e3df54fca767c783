use Rattle.std.proofs.Common.{◌≡◌, ◌≤◌, ◌+◌, ◌-◌, ◌∙◌, ◌++◌, List, ℕ, ap, take, drop, length, arith, rules, refl, length-drop}
use Rattle.std.specs.Prelude.{slice_range}
use Rattle.http_edge.proofs.Buffers.{few_between, stays_within, moved, between_same, read_behind}
use Rattle.http_edge.proofs.Growing.{grows_same, grows_end, grows_by}
use Rattle.http_edge.proofs.held.Held.fill.Goals as goal

pub invariant_of-self : goal.invariant_of-self
invariant_of-self g c =
    let start = c.start_with_room-start.ensures in
    stays_within _ _ _ _ _ c.self.inside.start c.self.inside.end _ c.args.room c.self.invariant c.self.view_is c.requires.room.1 start.start start.len
    start.room c.lengthen.ensures.bytes c.lengthen.ensures.bound refl

pub invariant_of-self-in-Err : goal.invariant_of-self-in-Err
invariant_of-self-in-Err g c =
    let start = c.start_with_room-start.ensures in
    stays_within _ _ _ _ _ c.self.inside.start c.self.inside.end _ c.args.room c.self.invariant c.self.view_is c.requires.room.1 start.start start.len
    start.room c.lengthen.ensures.bytes c.lengthen.ensures.bound c.in-Err.ensures.len

pub invariant_of-self-in-Ok-eq0 : goal.invariant_of-self-in-Ok-eq0
invariant_of-self-in-Ok-eq0 g c =
    let start = c.start_with_room-start.ensures in
    stays_within _ _ _ _ _ c.self.inside.start c.self.inside.end _ c.args.room c.self.invariant c.self.view_is c.requires.room.1 start.start start.len
    start.room c.lengthen.ensures.bytes c.lengthen.ensures.bound c.in-Ok-eq0.ensures.len

pub invariant_of-self-in-Ok : goal.invariant_of-self-in-Ok
invariant_of-self-in-Ok g c =
    let start = c.start_with_room-start.ensures in
    let within = stays_within _ _ _ _ _ c.self.inside.start c.self.inside.end _ c.args.room c.self.invariant c.self.view_is c.requires.room.1 start.start
    start.len start.room c.lengthen.ensures.bytes c.lengthen.ensures.bound c.in-Ok.ensures.len in
    let long : c.self.inside.end - (c.self.inside.start - c.start_with_room-start.result) + c.args.room ≤ length c.lengthen.new.buffer.items = search rules in
    (omega (arith, within.0), omega (arith, long, c.in-Ok.ensures.bound, c.in-Ok.ensures.len), within.2)

pub returns-then-is_err-clause-arrived : goal.returns-then-is_err-clause-arrived
returns-then-is_err-clause-arrived g c =
    let h = c.self.inside in
    let start = c.start_with_room-start.ensures in
    let same = moved h.buffer.items c.start_with_room-start.new.buffer.items c.lengthen.new.buffer.items h.start h.end c.start_with_room-start.result
    start.start c.self.invariant.0 c.self.invariant.1 start.len start.bytes c.lengthen.ensures.bytes in
    (grows_same _ _ _ _ (same ∙ c.self.view_is) refl, refl)

pub returns-in-Err-clause-arrived : goal.returns-in-Err-clause-arrived
returns-in-Err-clause-arrived g c =
    let h = c.self.inside in
    let s : ℕ = c.start_with_room-start.result in
    let end : ℕ = h.end - (h.start - s) in
    let start = c.start_with_room-start.ensures in
    let same = moved h.buffer.items c.start_with_room-start.new.buffer.items c.lengthen.new.buffer.items h.start h.end s
    start.start c.self.invariant.0 c.self.invariant.1 start.len start.bytes c.lengthen.ensures.bytes in
    let after : slice_range c.read_at.new.buffer.items s end ≡ slice_range c.lengthen.new.buffer.items s end =
    between_same c.read_at.new.buffer.items c.lengthen.new.buffer.items s end end (omega arith) c.in-Err.ensures.front in
    (grows_same _ _ _ _ (after ∙ same ∙ c.self.view_is) c.in-Err.ensures.told, c.in-Err.ensures.cause.failed)

pub returns-in-Ok-eq0-clause-arrived : goal.returns-in-Ok-eq0-clause-arrived
returns-in-Ok-eq0-clause-arrived g c =
    let h = c.self.inside in
    let s : ℕ = c.start_with_room-start.result in
    let end : ℕ = h.end - (h.start - s) in
    let start = c.start_with_room-start.ensures in
    let same = moved h.buffer.items c.start_with_room-start.new.buffer.items c.lengthen.new.buffer.items h.start h.end s
    start.start c.self.invariant.0 c.self.invariant.1 start.len start.bytes c.lengthen.ensures.bytes in
    let after : slice_range c.read_at.new.buffer.items s end ≡ slice_range c.lengthen.new.buffer.items s end =
    between_same c.read_at.new.buffer.items c.lengthen.new.buffer.items s end end (omega arith) c.in-Ok-eq0.ensures.front in
    let grows = grows_end _ _ (drop end c.read_at.new.buffer.items) _ _ c.in-Ok-eq0.field-0 (after ∙ same ∙ c.self.view_is) c.in-Ok-eq0.field-0-test
    c.in-Ok-eq0.ensures.told in
    (grows.0, grows.1, c.in-Ok-eq0.ensures.cause.same)

pub returns-in-Ok-clause-arrived : goal.returns-in-Ok-clause-arrived
returns-in-Ok-clause-arrived g c =
    let h = c.self.inside in
    let s : ℕ = c.start_with_room-start.result in
    let end : ℕ = h.end - (h.start - s) in
    let start = c.start_with_room-start.ensures in
    let same = moved h.buffer.items c.start_with_room-start.new.buffer.items c.lengthen.new.buffer.items h.start h.end s
    start.start c.self.invariant.0 c.self.invariant.1 start.len start.bytes c.lengthen.ensures.bytes in
    let rest : List ℕ = drop end c.read_at.new.buffer.items in
    let behind : slice_range c.read_at.new.buffer.items s (end + c.in-Ok.count) ≡ slice_range c.lengthen.new.buffer.items s end ++ take c.in-Ok.count rest =
    read_behind c.lengthen.new.buffer.items c.read_at.new.buffer.items s end c.in-Ok.count (omega (arith, start.start, c.self.invariant.0))
    c.in-Ok.ensures.front in
    let long : end + c.args.room ≤ length c.lengthen.new.buffer.items = search rules in
    let grows = grows_by _ _ rest _ _ c.in-Ok.count (behind ∙ ap (λ (t : List ℕ). t ++ take c.in-Ok.count rest) (same ∙ c.self.view_is)) c.in-Ok.ensures.told
    (omega arith)
    (omega (arith, length-drop end c.read_at.new.buffer.items, c.in-Ok.ensures.len, c.in-Ok.ensures.bound)) in
    (grows.0, grows.1, c.in-Ok.ensures.cause.same)

pub returns-then-is_err-clause-bound : goal.returns-then-is_err-clause-bound
returns-then-is_err-clause-bound g c = few_between _ _ _ _ (invariant_of-self g c).2

pub returns-in-Err-clause-bound : goal.returns-in-Err-clause-bound
returns-in-Err-clause-bound g c = few_between _ _ _ _ (invariant_of-self-in-Err g c).2

pub returns-in-Ok-eq0-clause-bound : goal.returns-in-Ok-eq0-clause-bound
returns-in-Ok-eq0-clause-bound g c = few_between _ _ _ _ (invariant_of-self-in-Ok-eq0 g c).2

pub returns-in-Ok-clause-bound : goal.returns-in-Ok-clause-bound
returns-in-Ok-clause-bound g c = few_between _ _ _ _ (invariant_of-self-in-Ok g c).2
