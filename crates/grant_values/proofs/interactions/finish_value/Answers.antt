use Rattle.grant_values.specs.Interactions.{finish_data}
use Rattle.grant_values.proofs.interactions.finish_value.Goals as goal

pub returns : goal.returns
unfolding finish_data
returns c =
    c.value.ensures _
    (c.with_optional.ensures _ _ c.hash_method_value.ensures
    (c.with-3.ensures _ _ (rw c.finish_method.ensures at c.word_value.ensures)
    (c.with-2.ensures _ _ (rw c.as_slice-2.ensures.value at c.text_value-2.ensures)
    (c.with.ensures _ _ (rw c.as_slice.ensures.value at c.text_value.ensures) c.new.ensures))))
