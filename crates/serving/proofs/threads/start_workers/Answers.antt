use Rattle.std.proofs.Common.{◌≡◌, ◌∙◌, ◌≤◌, suc, [], ◌++◌, length, map, ap, sym, subst, arith}
use lib.ListN.{get_elem?}
use Rattle.std.proofs.lemmas.List.{nil_from_length, append-nil}
use Rattle.std.proofs.lemmas.List.Elements.{All-same, All-head, All-rest}
use Rattle.outside.specs.Gears.{IsUnused}
use Rattle.serving.specs.Workers.{ArePlaced}
use Rattle.serving.proofs.Starting.{none-placed, first-taken, size-next, made-next, each-next}
use Rattle.serving.proofs.threads.start_workers.Goals as goal

pub loop-alloc-init : goal.loop-alloc-init
loop-alloc-init g c =
    let none : c.args.workers.items
    ≡ [] = nil_from_length c.args.workers.items (let long = c.args.workers.ok in let zero = c.requires.room.0 in omega (arith, long, zero)) in
    let size = ap length none in
    let count = c.requires.passes.all.count in
    record {
      parts = ap (λ l. map (λ worker. worker.gear) l ++ map g.G.Counted.state c.args.gears.now.items) none;
      many = c.requires.many;
      count = omega (arith, size, count);
      room = (let room = c.requires.room.1 in omega (arith, size, room));
      placed = subst (ArePlaced c.args.shared.now c.args.front.now) (sym none) (none-placed c.args.shared.now c.args.front.now);
      waiting = λ k p e.
          let pass = c.requires.passes.all.each k p e in
          (pass.0, pass.1 ∙ omega (arith, size), c.requires.passes.unseen k p e);
      unused = c.requires.unused;
      within = c.requires.within;
      passes_room = (let ok = c.args.passes.now.ok in omega (arith, ok, count));
      gears_room = (let ok = c.args.gears.now.ok in let many = c.requires.many in omega (arith, ok, many, count));
    }

pub remove-pass-requires : goal.remove-pass-requires
remove-pass-requires g c =
    let some_left = c.loop-alloc-test.true in
    let len = c.len.ensures in
    let many = c.loop-alloc.invariant.many in
    let gears = c.loop-alloc.gears.ok in
    let passes = c.loop-alloc.passes.ok in
    omega (arith, some_left, len, many, gears, passes)

pub new-requires-clause-of : goal.new-requires-clause-of
new-requires-clause-of g c κs within =
    let passes = first-taken c.loop-alloc.passes.items c.remove-pass.new.self.items c.remove-pass.result
    (let len = c.remove-pass.ensures.len in let ok = c.loop-alloc.passes.ok in omega (arith, len, ok))
    c.remove-pass.ensures.value c.remove-pass.ensures.items in
    (c.loop-alloc.invariant.waiting 0 c.remove-pass.result (ap (λ l. get_elem? l 0) passes)).0

pub new-requires-clause-unseen : goal.new-requires-clause-unseen
new-requires-clause-unseen g c κs within =
    let passes = first-taken c.loop-alloc.passes.items c.remove-pass.new.self.items c.remove-pass.result
    (let len = c.remove-pass.ensures.len in let ok = c.loop-alloc.passes.ok in omega (arith, len, ok))
    c.remove-pass.ensures.value c.remove-pass.ensures.items in
    (c.loop-alloc.invariant.waiting 0 c.remove-pass.result (ap (λ l. get_elem? l 0) passes)).2

pub new-requires-clause-unused : goal.new-requires-clause-unused
new-requires-clause-unused g c κs within =
    let gears = first-taken c.loop-alloc.gears.items c.remove-gear.new.self.items c.remove-gear.result
    (let len = c.remove-gear.ensures.len in let ok = c.loop-alloc.gears.ok in omega (arith, len, ok))
    c.remove-gear.ensures.value c.remove-gear.ensures.items in
    All-head (λ gear. IsUnused (g.G.Counted.state gear)) c.remove-gear.result c.remove-gear.new.self.items
    (All-same (λ gear. IsUnused (g.G.Counted.state gear)) _ _ (sym gears) c.loop-alloc.invariant.unused)

pub new-requires-clause-room : goal.new-requires-clause-room
new-requires-clause-room g c κs within =
    let gears = first-taken c.loop-alloc.gears.items c.remove-gear.new.self.items c.remove-gear.result
    (let len = c.remove-gear.ensures.len in let ok = c.loop-alloc.gears.ok in omega (arith, len, ok))
    c.remove-gear.ensures.value c.remove-gear.ensures.items in
    let left = All-head (λ gear. (g.G.Counted.state gear).left ≤ 4294967295) c.remove-gear.result c.remove-gear.new.self.items
    (All-same (λ gear. (g.G.Counted.state gear).left ≤ 4294967295) _ _ (sym gears) c.loop-alloc.invariant.within) in
    omega (arith, left)

pub loop-alloc-preserved : goal.loop-alloc-preserved
loop-alloc-preserved g c =
    let i = c.loop-alloc.invariant in
    let passes = first-taken c.loop-alloc.passes.items c.remove-pass.new.self.items c.remove-pass.result
    (let len = c.remove-pass.ensures.len in let ok = c.loop-alloc.passes.ok in omega (arith, len, ok))
    c.remove-pass.ensures.value c.remove-pass.ensures.items in
    let gears = first-taken c.loop-alloc.gears.items c.remove-gear.new.self.items c.remove-gear.result
    (let len = c.remove-gear.ensures.len in let ok = c.loop-alloc.gears.ok in omega (arith, len, ok))
    c.remove-gear.ensures.value c.remove-gear.ensures.items in
    let pushed = c.push_reserved.ensures.items in
    let longer = ap length pushed in
    let size = size-next c.loop-alloc.workers.items c.new.result in
    let fewer_passes = ap length passes in
    let fewer_gears = ap length gears in
    let first = i.waiting 0 c.remove-pass.result (ap (λ l. get_elem? l 0) passes) in
    record {
      parts = ap (λ l. map (λ worker. worker.gear) l ++ map g.G.Counted.state c.remove-gear.new.self.items) pushed
          ∙ made-next (λ worker. worker.gear) g.G.Counted.state c.loop-alloc.workers.items c.new.result _ _ c.remove-gear.result _ i.parts gears
          (ap (λ w. w.gear) c.new.ensures);
      many = (let many = i.many in omega (arith, many, fewer_passes, fewer_gears));
      count = (let count = i.count in omega (arith, count, longer, size, fewer_passes));
      room = (let room = i.room in let same = c.push_reserved.ensures.capacity in omega (arith, room, same, longer, size, fewer_passes));
      placed = subst (ArePlaced c.args.shared.now c.args.front.now) (sym pushed)
          (each-next (λ k w. (w.station.home ≡ c.args.shared.now) × (w.station.number ≡ k) × (w.front ≡ c.args.front.now)) c.loop-alloc.workers.items
          c.new.result i.placed (
            ap (λ w. w.station.home) c.new.ensures,
            ap (λ w. w.station.number) c.new.ensures ∙ first.1 ∙ omega arith,
            ap (λ w. w.front) c.new.ensures,
          ));
      waiting = λ k p e.
          let pass = i.waiting (suc k) p (ap (λ l. get_elem? l (suc k)) passes ∙ e) in
          (pass.0, pass.1 ∙ omega (arith, longer, size), pass.2);
      unused = All-rest (λ gear. IsUnused (g.G.Counted.state gear)) c.remove-gear.result _ _ gears i.unused;
      within = All-rest (λ gear. (g.G.Counted.state gear).left ≤ 4294967295) c.remove-gear.result _ _ gears i.within;
      passes_room = (let room = i.passes_room in let same = c.remove-pass.ensures.capacity in omega (arith, room, same));
      gears_room = (let room = i.gears_room in let same = c.remove-gear.ensures.capacity in omega (arith, room, same));
    }

pub returns-clause-workers : goal.returns-clause-workers
returns-clause-workers g c =
    let i = c.loop-alloc.invariant in
    record {
      count = (
          let done = c.loop-alloc-test.false in
          let len = c.len.ensures in
          let gears = c.loop-alloc.gears.ok in
          let many = i.many in
          let count = i.count in
          omega (arith, done, len, gears, many, count));
      each = i.placed;
    }

pub returns-clause-gears : goal.returns-clause-gears
returns-clause-gears g c =
    let none : c.loop-alloc.gears.items ≡ [] = nil_from_length c.loop-alloc.gears.items
    (let done = c.loop-alloc-test.false in let len = c.len.ensures in let ok = c.loop-alloc.gears.ok in omega (arith, done, len, ok)) in
    sym (append-nil (map (λ worker. worker.gear) c.loop-alloc.workers.items))
    ∙ ap (λ l. map (λ worker. worker.gear) c.loop-alloc.workers.items ++ map g.G.Counted.state l) (sym none) ∙ c.loop-alloc.invariant.parts

pub returns-clause-room : goal.returns-clause-room
returns-clause-room g c =
    let i = c.loop-alloc.invariant in
    let done = c.loop-alloc-test.false in
    let len = c.len.ensures in
    let gears = c.loop-alloc.gears.ok in
    let passes = c.loop-alloc.passes.ok in
    let many = i.many in
    let count = i.count in
    let passes_room = i.passes_room in
    let gears_room = i.gears_room in (
      omega (arith, done, len, gears, passes, many),
      omega (arith, done, len),
      omega (arith, count, passes_room),
      omega (arith, count, gears_room),
    )
