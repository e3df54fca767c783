use Rattle.std.proofs.Common.{◌≡◌, ◌++◌, drop}
use Rattle.gnap_model.specs.Continue.{decided_part}
use Rattle.grant_rules.proofs.decided_asks.decided_part.Given as goal

abbrev pub invariant-loop-right : goal.invariant-loop-right
invariant-loop-right l = (l.part ++ decided_part l.decided (drop l.right-index l.right-items)) ≡ decided_part l.decided l.asked
