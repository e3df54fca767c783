use Rattle.grant_values.specs.Interactions.{modes_data}
use Rattle.grant_values.proofs.interactions.modes_value.Goals as goal

pub returns : goal.returns
unfolding modes_data
returns c =
    c.value.ensures _
    (c.with_optional.ensures _ _ c.optional_finish.ensures
    (c.with.ensures _ _ c.starts_value.ensures c.new.ensures))
