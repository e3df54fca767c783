use Rattle.std.proofs.Common.{◌≡◌, ◌∙◌, ◌/◌, ℕ, List, [], get_or, ap, sym, subst, arith}
use Rattle.std.specs.Prelude.{slice_get}
use Rattle.gnap_tables.proofs.Lists.{HasItem}
use Rattle.grant_states.specs.declared.numbers_by_key.Listed.{Listed}
use Rattle.grant_states.specs.Listed.{under}
use Rattle.grant_states.proofs.CodeLists.{got_list}
use Rattle.grant_states.proofs.open_codes.OpenCodes.run_end.Goals as goal

pub returns-in-Some-clause-run : goal.returns-in-Some-clause-run
returns-in-Some-clause-run c =
    let letter : ℕ = c.args.code / 1280000000 in
    let lists : List (List Listed) = c.args.self.now.lists.items in
    let is : get_or lists letter []
    ≡ c.in-Some.list.now = got_list lists letter c.in-Some.list.now
    (sym (c.in-Some.ensures ∙ ap (λ (ls : List (List Listed)). slice_get ls letter) c.as_slice.ensures.value)) in
    λ k le lt.
    let same : letter ≡ k / 1280000000 = omega (arith, le, lt, c.min.ensures) in
    let r = c.run_end.ensures.run k le (omega (arith, lt, c.min.ensures)) in
    (r.0, subst (λ (os : List Listed). HasItem os (under k r.0)) (sym is ∙ ap (λ n. get_or lists n []) same) r.1)
