use Rattle.std.proofs.Common.{rules, Some, sym, ◌∙◌}
use Rattle.nonce_store.proofs.Under.{on_ok_map, on_err_map, until_set, many_set, until_same, many_same, until_is, under_after, ordered_set}
use Rattle.nonce_store.proofs.trees.put_in.Goals as goal

pub put_under-requires : goal.put_under-requires
put_under-requires c =
    sym (until_is c.args.keys.now c.args.key c.in-Some.untils.now c.args.nonce.bytes.items (sym c.in-Some.ensures.value)) ∙ c.requires

pub returns-in-Some-clause-rows : goal.returns-in-Some-clause-rows
returns-in-Some-clause-rows c = on_ok_map c.put_under.result _ _ (λ rows.
    until_set c.args.keys.now (c.get_mut.follows.lender c.put_under.new.untils) c.args.key c.args.nonce c.in-Some.untils.now
    c.put_under.new.untils (Some c.args.end)
    (sym c.in-Some.ensures.value) ((c.get_mut.follows.holds c.put_under.new.untils).3 (search rules)) rows) c.put_under.ensures.rows

pub returns-in-Some-clause-counts : goal.returns-in-Some-clause-counts
returns-in-Some-clause-counts c = on_ok_map c.put_under.result _ _ (λ counts m.
    many_set c.args.keys.now (c.get_mut.follows.lender c.put_under.new.untils) c.args.key c.in-Some.untils.now c.put_under.new.untils c.args.end m
    (sym c.in-Some.ensures.value) (c.get_mut.follows.holds c.put_under.new.untils).0 (counts m)) c.put_under.ensures.counts

pub returns-in-Some-clause-err : goal.returns-in-Some-clause-err
returns-in-Some-clause-err c = on_err_map c.put_under.result _ _ (λ same. (
  until_same c.args.keys.now (c.get_mut.follows.lender c.put_under.new.untils) c.args.key c.in-Some.untils.now c.put_under.new.untils
      (under_after c.args.keys.now (c.get_mut.follows.lender c.put_under.new.untils) c.args.key (Some c.put_under.new.untils)
      ((c.get_mut.follows.holds c.put_under.new.untils).3 (search rules)))
      (sym c.in-Some.ensures.value) same,
  many_same c.args.keys.now (c.get_mut.follows.lender c.put_under.new.untils) c.args.key c.in-Some.untils.now c.put_under.new.untils
      (sym c.in-Some.ensures.value) (c.get_mut.follows.holds c.put_under.new.untils).0 same,
)) c.put_under.ensures.err

pub returns-in-Some-clause-ordered : goal.returns-in-Some-clause-ordered
returns-in-Some-clause-ordered c = λ were.
    ordered_set c.args.keys.now (c.get_mut.follows.lender c.put_under.new.untils) _ c.put_under.new.untils (c.get_mut.follows.holds c.put_under.new.untils).0
    (c.get_mut.follows.holds c.put_under.new.untils).4 c.put_under.ensures.ordered were
