use Rattle.std.proofs.Common.{◌∙◌}
use Rattle.std.specs.Prelude.{is_ok}
use Rattle.grant_states.proofs.CodeLists.{pushed_list}
use Rattle.grant_states.proofs.open_codes.make_lists.Goals as goal

pub loop-preserved : goal.loop-preserved
loop-preserved c = λ i. pushed_list (is_ok c.push.result) c.loop.lists.items c.push.new.self.items c.new.result c.new.ensures c.push.ensures.items i
    ∙ c.loop.invariant i
