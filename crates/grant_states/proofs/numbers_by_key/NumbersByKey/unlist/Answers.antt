use Rattle.std.proofs.Common.{List, subst, sym, ◌∙◌, ap, ◌≡◌, get_or}
use Rattle.gnap_tables.proofs.Lists.{HasItem}
use Rattle.grant_states.specs.declared.numbers_by_key.Listed.{Listed}
use Rattle.grant_states.specs.Listed.{ListedNumbers, under}
use Rattle.grant_states.proofs.ListedNumbers.{item_left_in, item_not_taken}
use Rattle.grant_states.proofs.numbers_by_key.NumbersByKey.unlist.Goals as goal

pub returns-in-Some-clause-kept : goal.returns-in-Some-clause-kept
returns-in-Some-clause-kept c = λ one h other.
    let items : List Listed = c.self.inside.listed.items in
    let is : (d : Listed) → get_or items c.in-Some.at d
    ≡ under c.args.key c.args.number = subst (λ (os : List Listed). (d : Listed) → get_or os c.in-Some.at d ≡ under c.args.key c.args.number)
    c.as_slice.ensures.value c.in-Some.ensures.found.1 in
    subst (λ (os : List Listed). HasItem os one) (sym c.remove-gone.ensures.items)
    (item_not_taken items c.in-Some.at one (subst (λ (os : List Listed). HasItem os one) (sym (ap (λ (s : ListedNumbers). s.listed) c.self.view_is)) h)
    (λ e. other (sym e ∙ is one)))

pub returns-in-Some-clause-only : goal.returns-in-Some-clause-only
returns-in-Some-clause-only c = λ one h.
    subst (λ (os : List Listed). HasItem os one) (ap (λ (s : ListedNumbers). s.listed) c.self.view_is)
    (item_left_in c.self.inside.listed.items c.in-Some.at one (subst (λ (os : List Listed). HasItem os one) c.remove-gone.ensures.items h))
