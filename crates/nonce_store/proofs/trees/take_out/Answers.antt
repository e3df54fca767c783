use Rattle.std.proofs.Common.{rules, None, sym}
use Rattle.nonce_store.proofs.Under.{until_set, many_taken, under_after, ordered_set}
use Rattle.nonce_store.proofs.trees.take_out.Goals as goal

pub returns-in-Some-clause-rows : goal.returns-in-Some-clause-rows
returns-in-Some-clause-rows c =
    until_set c.args.keys.now (c.get_mut.follows.lender c.remove.new.self) c.args.key.now c.args.nonce.now c.in-Some.untils.now
    c.remove.new.self None
    (sym c.in-Some.ensures.value) ((c.get_mut.follows.holds c.remove.new.self).3 (search rules))
    (under_after c.in-Some.untils.now c.remove.new.self c.args.nonce.now None c.remove.ensures.updates)

pub returns-in-Some-clause-counts : goal.returns-in-Some-clause-counts
returns-in-Some-clause-counts c =
    many_taken c.args.keys.now (c.get_mut.follows.lender c.remove.new.self) c.args.key.now c.args.nonce.now c.in-Some.untils.now c.remove.new.self
    (sym c.in-Some.ensures.value) (c.get_mut.follows.holds c.remove.new.self).0 c.remove.ensures.entries

pub returns-in-Some-clause-ordered : goal.returns-in-Some-clause-ordered
returns-in-Some-clause-ordered c = λ were.
    ordered_set c.args.keys.now (c.get_mut.follows.lender c.remove.new.self) _ c.remove.new.self (c.get_mut.follows.holds c.remove.new.self).0
    (c.get_mut.follows.holds c.remove.new.self).4 c.remove.ensures.ordered were
