use Rattle.access_rights.specs.Printing.{right_members}
use Rattle.access_rights.proofs.printing.object_value.Goals as goal

pub returns : goal.returns
unfolding right_members
returns c =
    c.value.ensures _
    (c.with.ensures _ _ (rw c.as_slice.ensures.value at c.text_value.ensures)
    (c.with_optional-5.ensures _ _ c.dimension_value-4.ensures
    (c.with_optional-4.ensures _ _ c.dimension_value-3.ensures
    (c.with_optional-3.ensures _ _ c.dimension_value-2.ensures
    (c.with_optional-2.ensures _ _ c.dimension_value.ensures
    (c.with_optional.ensures _ _ c.optional_value.ensures
    (c.over.ensures _ c.further_members.ensures)))))))
