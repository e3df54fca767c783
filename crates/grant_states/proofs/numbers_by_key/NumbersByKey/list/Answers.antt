use Rattle.std.proofs.Common.{length, subst, sym, ◌≤◌, ap, List}
use Rattle.std.specs.List.Sorted.{IsNonDecreasingBy}
use Rattle.gnap_tables.proofs.Lists.{HasItem}
use Rattle.grant_states.specs.declared.numbers_by_key.Listed.{Listed}
use Rattle.grant_states.specs.Listed.{ListedNumbers, key_of, under, IsEndOf}
use Rattle.grant_states.proofs.ListedNumbers.{inserted_in_order, item_inserted, item_stays}
use Rattle.grant_states.proofs.numbers_by_key.NumbersByKey.list.Goals as goal

pub end_of-at-requires : goal.end_of-at-requires
end_of-at-requires c = subst (IsNonDecreasingBy key_of) (sym c.as_slice.ensures.value) c.self.invariant

pub invariant_of-self : goal.invariant_of-self
invariant_of-self c = subst (IsNonDecreasingBy key_of) (sym c.in-Ok.ensures.items)
    (inserted_in_order c.self.inside.listed.items c.end_of-at.result (under c.args.key c.args.number) c.self.invariant
    (subst (λ (os : List Listed). c.end_of-at.result ≤ length os) c.as_slice.ensures.value c.end_of-at.ensures.within)
    (subst (λ (os : List Listed). IsEndOf c.args.key os c.end_of-at.result) c.as_slice.ensures.value c.end_of-at.ensures.end))

pub returns-clause-listed : goal.returns-clause-listed
returns-clause-listed c = subst (λ (os : List Listed). HasItem os (under c.args.key c.args.number)) (sym c.in-Ok.ensures.items)
    (item_inserted c.self.inside.listed.items c.end_of-at.result (under c.args.key c.args.number))

pub returns-clause-kept : goal.returns-clause-kept
returns-clause-kept c = λ one h. subst (λ (os : List Listed). HasItem os one) (sym c.in-Ok.ensures.items)
    (item_stays c.self.inside.listed.items c.end_of-at.result (under c.args.key c.args.number) one
    (subst (λ (os : List Listed). HasItem os one) (sym (ap (λ (s : ListedNumbers). s.listed) c.self.view_is)) h))
