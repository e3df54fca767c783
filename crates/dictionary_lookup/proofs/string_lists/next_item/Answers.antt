use Rattle.dictionary_lookup.proofs.StringLists.{is_passed}
use Rattle.dictionary_lookup.proofs.string_lists.next_item.Goals as goal

pub returns-then-not-so_far-clause-ok : goal.returns-then-not-so_far-clause-ok
returns-then-not-so_far-clause-ok c =
    is_passed c.args.so_far c.args.items.now c.args.bytes.now c.in_ok-behind_item.field-0.now c.if-not-so_far.true c.in_ok-behind_item.ensures
