use Rattle.std.proofs.Common.{◌∙◌, ℕ, List, Option, ap, subst, sym, arith, inl, inr}
use Rattle.std.specs.Prelude.{is_some, slice_get}
use Rattle.gnap_tables.proofs.Lists.{HasItem}
use Rattle.grant_states.specs.declared.numbers_by_key.Listed.{Listed}
use Rattle.grant_states.specs.Listed.{Ascend, under}
use Rattle.grant_states.proofs.ListedNumbers.{item_inserted, item_stays}
use Rattle.grant_states.proofs.CodeLists.{codes_ascend, item_of_insert, number_there, place_within, put_ascend}
use Rattle.grant_states.proofs.code_list.CodeList.put.Goals as goal

pub place_of-at-requires : goal.place_of-at-requires
place_of-at-requires c = codes_ascend c.as_slice.result.now c.self.inside.listed.items c.as_slice.ensures.value c.self.invariant

pub insert-requires : goal.insert-requires
insert-requires c = let n = place_within c.as_slice.result.now c.place_of-at.result c.args.code c.place_of-at.ensures in omega
    (arith, n, c.as_slice.ensures.len)

pub invariant_of-self-2 : goal.invariant_of-self-2
invariant_of-self-2 c =
    subst Ascend (sym c.in-Ok.ensures.items)
    (put_ascend c.as_slice.result.now c.as_slice-2.result.now c.self.inside.listed.items c.place_of-at.result c.args.code c.args.number
    c.as_slice.ensures.value c.as_slice-2.ensures.value c.self.invariant c.place_of-at.ensures
    (sym (sym c.is_some.ensures ∙ c.if-is_some.false) ∙ ap (λ (o : Option ℕ). is_some o) c.number_at.ensures
    ∙ number_there c.args.code (slice_get c.as_slice-2.result.now c.place_of-at.result)))

pub returns-clause-listed : goal.returns-clause-listed
returns-clause-listed c = λ e. subst (λ (os : List Listed). HasItem os (under c.args.code c.args.number)) (sym c.in-Ok.ensures.items)
    (item_inserted c.self.inside.listed.items c.place_of-at.result (under c.args.code c.args.number))

pub returns-clause-kept : goal.returns-clause-kept
returns-clause-kept c = λ one h. subst (λ (os : List Listed). HasItem os one) (sym c.in-Ok.ensures.items)
    (item_stays c.self.inside.listed.items c.place_of-at.result (under c.args.code c.args.number) one
    (subst (λ (os : List Listed). HasItem os one) (sym c.self.view_is) h))

pub returns-clause-only : goal.returns-clause-only
returns-clause-only c = λ one h. elim
    (item_of_insert c.self.inside.listed.items c.place_of-at.result (under c.args.code c.args.number) one
    (subst (λ (os : List Listed). HasItem os one) c.in-Ok.ensures.items h)) [
      | inl m ↦ inl (subst (λ (os : List Listed). HasItem os one) c.self.view_is m)
      | inr e ↦ inr e
    ]
