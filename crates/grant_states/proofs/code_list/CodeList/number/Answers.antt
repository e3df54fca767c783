use Rattle.std.proofs.Common.{List, ap, refl, subst, sym, ◌∙◌}
use Rattle.gnap_tables.proofs.Lists.{HasItem}
use Rattle.grant_states.specs.declared.numbers_by_key.Listed.{Listed}
use Rattle.grant_states.specs.Listed.{key_of, number_where, under}
use Rattle.grant_states.proofs.Placed.{at_place}
use Rattle.grant_states.proofs.CodeLists.{codes_ascend, number_here}
use Rattle.grant_states.proofs.code_list.CodeList.number.Goals as goal

pub place_of-at-requires : goal.place_of-at-requires
place_of-at-requires c = codes_ascend c.as_slice-listed.result.now c.self.inside.listed.items c.as_slice-listed.ensures.value c.self.invariant

pub returns : goal.returns
returns c = λ number h. c.number_at.ensures ∙ ap (number_where c.args.code)
    (at_place key_of c.as_slice-listed.result.now c.place_of-at.result c.args.code (under c.args.code number)
    (codes_ascend c.as_slice-listed.result.now c.self.inside.listed.items c.as_slice-listed.ensures.value c.self.invariant) c.place_of-at.ensures
    (subst (λ (os : List Listed). HasItem os (under c.args.code number)) (sym c.self.view_is ∙ sym c.as_slice-listed.ensures.value) h) refl)
    ∙ number_here c.args.code number
