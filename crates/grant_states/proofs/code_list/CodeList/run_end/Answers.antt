use Rattle.std.proofs.Common.{List, subst, sym, ◌∙◌}
use Rattle.std.proofs.lemmas.List.{take_rest}
use Rattle.gnap_tables.proofs.Lists.{HasItem}
use Rattle.grant_states.specs.declared.numbers_by_key.Listed.{Listed}
use Rattle.grant_states.specs.Listed.{Ascend, under}
use Rattle.grant_states.proofs.CodeLists.{codes_ascend, dropped_ascend, from_place, item_dropped}
use Rattle.grant_states.proofs.code_list.CodeList.run_end.Goals as goal

pub place_of-at-requires : goal.place_of-at-requires
place_of-at-requires c = codes_ascend c.as_slice-listed.result.now c.self.inside.listed.items c.as_slice-listed.ensures.value c.self.invariant

pub run_length-requires-clause-ascend : goal.run_length-requires-clause-ascend
run_length-requires-clause-ascend c =
    let all : List Listed = c.as_slice-listed.result.now in
    subst Ascend (sym (take_rest all c.place_of-at.result))
    (dropped_ascend all c.place_of-at.result (subst Ascend (sym c.as_slice-listed.ensures.value) c.self.invariant))

pub run_length-requires-clause-from : goal.run_length-requires-clause-from
run_length-requires-clause-from c =
    let all : List Listed = c.as_slice-listed.result.now in
    λ one h. from_place all c.place_of-at.result c.args.code c.place_of-at.ensures one
    (subst (λ (os : List Listed). HasItem os one) (take_rest all c.place_of-at.result) h)

pub returns-clause-run : goal.returns-clause-run
returns-clause-run c =
    let all : List Listed = c.as_slice-listed.result.now in
    λ k le lt.
    let r = c.run_length.ensures.run k le lt in (
      r.0,
      subst (λ (os : List Listed). HasItem os (under k r.0)) (c.as_slice-listed.ensures.value ∙ c.self.view_is)
          (item_dropped all c.place_of-at.result (under k r.0)
          (subst (λ (os : List Listed). HasItem os (under k r.0)) (take_rest all c.place_of-at.result) r.1)),
    )
