use Rattle.std.proofs.Common.{◌∙◌, List, set, ap}
use Rattle.std.proofs.lemmas.List.{set-get_or}
use Rattle.grant_states.specs.declared.numbers_by_key.Listed.{Listed}
use Rattle.grant_states.proofs.open_codes.reserve_lists.Goals as goal

pub loop-i-preserved : goal.loop-i-preserved
loop-i-preserved c =
    let lists : List (List Listed) = c.loop-i.lists.items in
    ap (set lists c.loop-i.i) (c.in_ok-reserve.ensures ∙ c.index_mut.ensures.value) ∙ set-get_or lists c.loop-i.i c.index_mut.result.now ∙ c.loop-i.invariant
