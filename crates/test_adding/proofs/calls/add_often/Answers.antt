use Rattle.std.proofs.Common.{◌<◌, ◌+◌, ◌^◌, ◌∙◌, length, arith, sym, subst}
use Rattle.histories.specs.History.{places}
use Rattle.test_adding.specs.Amounts.{GrewBy}
use Rattle.test_adding.proofs.Growing.{grew-counted, counted-next, places-grew}
use Rattle.test_adding.proofs.calls.add_often.Goals as goal

pub submit-requires-clause-room : goal.submit-requires-clause-room
submit-requires-clause-room g c =
    let D = g.D.Desk in
    let inv = c.loop.invariant in
    let now = inv.grew c.requires.room.0 c.requires.room.1 in
    let grew = places-grew _ _ _ _ _ _ now.2 in
    let left = c.requires.room.2 in
    let turn = c.loop-test.true in
    (now.0, now.1, subst (λ n. length (places n now.0) < 2 ^ 52) (sym inv.same_number) (omega (arith, grew, left, turn)))

pub loop-preserved : goal.loop-preserved
loop-preserved g c =
    let D = g.D.Desk in
    let inv = c.loop.invariant in
    let number = inv.same_number in
    let counted = counted-next c.loop.made c.count.new.self c.submit.result c.count.ensures.ok c.count.ensures.err in
    record {
      same_rules = ◌∙◌ {a = D.rules c.submit.new.self} c.submit.ensures.rules inv.same_rules;
      same_number = ◌∙◌ {a = D.number c.submit.new.self} c.submit.ensures.number number;
      same_home = ◌∙◌ {a = D.home c.submit.new.self} c.submit.ensures.home inv.same_home;
      all = let before = inv.all in omega (arith, counted, before);
      grew = λ h seen.
          let before = inv.grew h seen in
          let here = subst (λ n. GrewBy n c.args.amount c.loop.counter c.loop.made h before.0) (sym number) before.2 in
          let next = grew-counted _ _ _ _ _ _ _ c.count.new.self _ _ _ c.submit.ensures.ok c.submit.ensures.err
          c.count.ensures.ok c.count.ensures.err h before.0 before.1 here in
          (next.0, next.1, subst (λ n. GrewBy n c.args.amount (c.loop.counter + 1) c.count.new.self h next.0) number next.2);
    }
