use Rattle.std.proofs.Common.{take, drop, length, subst, sym, ◌∙◌, ◌-◌, ap, List}
use Rattle.std.specs.List.Sorted.{IsNonDecreasingBy}
use Rattle.std.proofs.lemmas.List.{take_rest}
use Rattle.std.proofs.lemmas.List.Sorted.{IsNonDecreasingBy-drop}
use Rattle.gnap_tables.proofs.Lists.{HasItem}
use Rattle.grant_states.specs.declared.numbers_by_key.Listed.{Listed}
use Rattle.grant_states.specs.Listed.{ListedNumbers, key_of}
use Rattle.grant_states.proofs.ListedNumbers.{of_from, of_within}
use Rattle.grant_states.proofs.numbers_by_key.NumbersByKey.of.Goals as goal

pub start_of-low-requires : goal.start_of-low-requires
start_of-low-requires c = subst (IsNonDecreasingBy key_of) (sym c.as_slice-listed.ensures.value) c.self.invariant

pub end_of-high-requires : goal.end_of-high-requires
end_of-high-requires c =
    let all : List Listed = c.as_slice-listed.result.now in
    subst (IsNonDecreasingBy key_of) (sym (take_rest all c.start_of-low.result))
    (IsNonDecreasingBy-drop key_of c.start_of-low.result all (subst (IsNonDecreasingBy key_of) (sym c.as_slice-listed.ensures.value) c.self.invariant))

pub returns : goal.returns
returns c = λ one h mine.
    let all : List Listed = c.as_slice-listed.result.now in
    let there : HasItem all one = subst (λ (os : List Listed). HasItem os one)
    (sym (ap (λ (s : ListedNumbers). s.listed) c.self.view_is) ∙ sym c.as_slice-listed.ensures.value) h in
    let from = of_from all c.start_of-low.result c.args.key one c.start_of-low.ensures.start there mine in
    let listed : List Listed = take (length all - c.start_of-low.result) (drop c.start_of-low.result all) in
    of_within listed c.end_of-high.result c.args.key one c.end_of-high.ensures.end
    (subst (λ (os : List Listed). HasItem os one) (sym (take_rest all c.start_of-low.result)) from) mine
