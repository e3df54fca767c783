use Rattle.std.proofs.Common.{rules, sym}
use Rattle.nonce_store.proofs.Under.{until_over, many_over, ordered_set, ordered_at}
use Rattle.nonce_store.proofs.trees.take_out_over.Goals as goal

pub returns-in-Some-clause-rows : goal.returns-in-Some-clause-rows
returns-in-Some-clause-rows c =
    until_over c.take_over_under.result c.args.keys.now (c.get_mut.follows.lender c.take_over_under.new.untils) c.args.key.now c.args.nonce.now
    c.in-Some.untils.now c.take_over_under.new.untils (sym c.in-Some.ensures.value) ((c.get_mut.follows.holds c.take_over_under.new.untils).3 (search rules))
    c.take_over_under.ensures.updates c.take_over_under.ensures.stays

pub returns-in-Some-clause-counts : goal.returns-in-Some-clause-counts
returns-in-Some-clause-counts c =
    many_over c.take_over_under.result c.args.keys.now (c.get_mut.follows.lender c.take_over_under.new.untils) c.args.key.now c.args.nonce.now
    c.in-Some.untils.now c.take_over_under.new.untils (sym c.in-Some.ensures.value) (c.get_mut.follows.holds c.take_over_under.new.untils).0
    c.take_over_under.ensures.entries c.take_over_under.ensures.stays

pub returns-in-Some-clause-ordered : goal.returns-in-Some-clause-ordered
returns-in-Some-clause-ordered c = λ were.
    ordered_set c.args.keys.now (c.get_mut.follows.lender c.take_over_under.new.untils) _ c.take_over_under.new.untils
    (c.get_mut.follows.holds c.take_over_under.new.untils).0 (c.get_mut.follows.holds c.take_over_under.new.untils).4
    (c.take_over_under.ensures.ordered (ordered_at c.args.keys.now c.args.key.now c.in-Some.untils.now (sym c.in-Some.ensures.value) were)) were
