use Rattle.interaction.specs.Pushes.{push_data}
use Rattle.interaction.proofs.pushes.push_value.Goals as goal

pub returns : goal.returns
unfolding push_data
returns c =
    c.value.ensures _
    (c.with-2.ensures _ _ c.text_value-2.ensures
    (c.with.ensures _ _ c.text_value.ensures c.new.ensures))
