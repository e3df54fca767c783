use Rattle.nonce_store.proofs.Under.{until_first, many_first, ordered_first}
use Rattle.nonce_store.proofs.trees.put_first.Goals as goal

pub returns-clause-rows : goal.returns-clause-rows
returns-clause-rows c =
    until_first c.args.keys.now c.insert.new.self c.args.key c.args.nonce c.new-untils.result c.put_under.new.untils c.args.end
    c.requires c.new-untils.ensures.empty c.in_ok-insert.ensures.updates c.in_ok-put_under.ensures.rows

pub returns-clause-counts : goal.returns-clause-counts
returns-clause-counts c = λ m.
    many_first c.args.keys.now c.insert.new.self c.args.key c.new-untils.result c.put_under.new.untils c.args.end m
    c.requires c.new-untils.ensures.empty c.in_ok-insert.ensures.was_ordered c.in_ok-insert.ensures.entries (c.in_ok-put_under.ensures.counts m)

pub returns-clause-ordered : goal.returns-clause-ordered
returns-clause-ordered c = λ were.
    ordered_first c.args.keys.now c.insert.new.self c.args.key c.put_under.new.untils c.in_ok-insert.ensures.entries
    c.insert.ensures.ordered c.put_under.ensures.ordered were
