use Rattle.std.proofs.Common.{◌∙◌, ◌/◌, ℕ, List, ap, sym, subst}
use Rattle.std.specs.Prelude.{slice_get}
use Rattle.gnap_tables.proofs.Lists.{HasItem}
use Rattle.grant_states.specs.declared.numbers_by_key.Listed.{Listed}
use Rattle.grant_states.specs.Listed.{under}
use Rattle.grant_states.proofs.CodeLists.{got_list, got_none}
use Rattle.grant_states.proofs.open_codes.OpenCodes.number_under.Goals as goal

pub returns-in-Some : goal.returns-in-Some
returns-in-Some c =
    let at : ℕ = c.args.listed / 1280000000 in
    λ number h. c.number.ensures number (subst (λ (os : List Listed). HasItem os (under c.args.listed number))
    (got_list c.args.self.now.lists.items at c.in-Some.list.now
    (sym (c.in-Some.ensures ∙ ap (λ (ls : List (List Listed)). slice_get ls at) c.as_slice.ensures.value))) h)

pub returns-in-None : goal.returns-in-None
returns-in-None c =
    let at : ℕ = c.args.listed / 1280000000 in
    λ number h. absurd (subst (λ (os : List Listed). HasItem os (under c.args.listed number))
    (got_none c.args.self.now.lists.items at (sym (c.in-None.ensures ∙ ap (λ (ls : List (List Listed)). slice_get ls at) c.as_slice.ensures.value))) h)
