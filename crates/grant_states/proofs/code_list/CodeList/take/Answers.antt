use Rattle.std.proofs.Common.{◌∙◌, ◌<◌, List, length, subst, sym, ap, arith}
use Rattle.std.specs.Prelude.{not, ◌==◌}
use Rattle.gnap_tables.proofs.Lists.{HasItem}
use Rattle.grant_states.specs.declared.numbers_by_key.Listed.{Listed}
use Rattle.grant_states.specs.Listed.{Ascend, under}
use Rattle.grant_states.proofs.Items.{item_of_filter}
use Rattle.grant_states.proofs.CodeLists.{at_code, codes_ascend, none_taken, taken_ascend, taken_at, taken_gone, taken_kept}
use Rattle.grant_states.proofs.code_list.CodeList.take.Goals as goal

pub place_of-at-requires : goal.place_of-at-requires
place_of-at-requires c = codes_ascend c.as_slice.result.now c.self.inside.listed.items c.as_slice.ensures.value c.self.invariant

pub remove-gone-requires : goal.remove-gone-requires
remove-gone-requires c =
    let t = at_code c.as_slice-2.result.now c.self.inside.listed.items c.place_of-at.result c.args.code c.args.number c.as_slice-2.ensures.value
    c.if-has_grant.ensures in
    let inside : c.place_of-at.result < length c.self.inside.listed.items = t.0 in
    let many = ap (length {A = Listed}) c.as_slice-2.ensures.value in omega (arith, inside, many, c.as_slice-2.ensures.len)

pub invariant_of-self : goal.invariant_of-self
invariant_of-self c =
    let t = at_code c.as_slice-2.result.now c.self.inside.listed.items c.place_of-at.result c.args.code c.args.number c.as_slice-2.ensures.value
    c.if-has_grant.ensures in
    subst Ascend (sym c.remove-gone.ensures.items) (taken_ascend c.self.inside.listed.items c.place_of-at.result c.self.invariant t.0)

pub returns-then-has_grant-clause-gone : goal.returns-then-has_grant-clause-gone
returns-then-has_grant-clause-gone c =
    let items : List Listed = c.self.inside.listed.items in
    let t = at_code c.as_slice-2.result.now items c.place_of-at.result c.args.code c.args.number c.as_slice-2.ensures.value c.if-has_grant.ensures in
    let left = c.remove-gone.ensures.items ∙ taken_at items c.place_of-at.result c.args.code c.args.number c.self.invariant t.0 t.1 in
    λ h. taken_gone items c.args.code c.args.number (subst (λ (os : List Listed). HasItem os (under c.args.code c.args.number)) left h)

pub returns-then-has_grant-clause-kept : goal.returns-then-has_grant-clause-kept
returns-then-has_grant-clause-kept c =
    let items : List Listed = c.self.inside.listed.items in
    let t = at_code c.as_slice-2.result.now items c.place_of-at.result c.args.code c.args.number c.as_slice-2.ensures.value c.if-has_grant.ensures in
    let left = c.remove-gone.ensures.items ∙ taken_at items c.place_of-at.result c.args.code c.args.number c.self.invariant t.0 t.1 in
    λ one h other. subst (λ (os : List Listed). HasItem os one) (sym left)
    (taken_kept items c.place_of-at.result c.args.code c.args.number one c.self.invariant t.0 t.1
    (subst (λ (os : List Listed). HasItem os one) (sym c.self.view_is) h) other)

pub returns-then-has_grant-clause-only : goal.returns-then-has_grant-clause-only
returns-then-has_grant-clause-only c =
    let items : List Listed = c.self.inside.listed.items in
    let t = at_code c.as_slice-2.result.now items c.place_of-at.result c.args.code c.args.number c.as_slice-2.ensures.value c.if-has_grant.ensures in
    let left = c.remove-gone.ensures.items ∙ taken_at items c.place_of-at.result c.args.code c.args.number c.self.invariant t.0 t.1 in
    λ one h. subst (λ (os : List Listed). HasItem os one) c.self.view_is
    (item_of_filter (λ (o : Listed). not (c.args.code == o.key)) items one (subst (λ (os : List Listed). HasItem os one) left h)).0

pub returns-else-has_grant-clause-gone : goal.returns-else-has_grant-clause-gone
returns-else-has_grant-clause-gone c = λ h. none_taken c.as_slice.result.now c.as_slice-2.result.now c.self.inside.listed.items c.place_of-at.result c.args.code
    c.args.number c.as_slice.ensures.value c.as_slice-2.ensures.value c.self.invariant c.place_of-at.ensures c.if-has_grant.ensures
    (subst (λ (os : List Listed). HasItem os (under c.args.code c.args.number)) (sym c.self.view_is) h)
