use Rattle.std.proofs.Common.{nat_le, Some, if◌then◌else◌}
use Rattle.nonce_store.proofs.Under.{under_after, sum_inserted}
use Rattle.nonce_store.proofs.trees.put_under.Goals as goal

pub returns-clause-rows : goal.returns-clause-rows
returns-clause-rows c = under_after c.args.untils.now c.insert.new.self c.args.nonce (Some c.args.end) c.in_ok-insert.ensures.updates

pub returns-clause-counts : goal.returns-clause-counts
returns-clause-counts c = λ m.
    sum_inserted (λ until. if nat_le m until then 1 else 0) c.args.untils.now c.insert.new.self c.args.nonce c.args.end c.in_ok-insert.ensures.was_ordered
    c.in_ok-insert.ensures.entries c.requires
