use Rattle.std.proofs.Common.{◌≡◌, ◌+◌}
use Rattle.test_adding.specs.Amounts.{GrewBy}
use Rattle.test_adding.proofs.calls.add_often.Given as goal

abbrev pub invariant-loop : goal.invariant-loop
invariant-loop g l =
    let D = g.D.Desk in
    record {
      same_rules : D.rules l.desk ≡ D.rules l.fn.desk;
      same_number : D.number l.desk ≡ D.number l.fn.desk;
      same_home : D.home l.desk ≡ D.home l.fn.desk;
      all : l.made.answered + l.made.lapsed ≡ l.counter;
      grew : (h : _) → D.seen l.fn.desk h → (k : _) × D.seen l.desk k × GrewBy (D.number l.fn.desk) l.amount l.counter l.made h k;
    }
