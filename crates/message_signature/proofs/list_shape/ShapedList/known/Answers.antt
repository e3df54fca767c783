use Rattle.std.proofs.Common.{◌+◌, ◌∙◌, length}
use Rattle.std.proofs.lemmas.List.{take_rest}
use Rattle.message_signature.proofs.ListShapes.{text_behind}
use Rattle.message_signature.proofs.list_shape.ShapedList.known.Goals as goal

pub returns : goal.returns
returns c =
    let one = c.args.self.now in
    let label = one.shape.value.label in
    let shown = text_behind label one.text one.shape.value.front one.list one.is_shape.0 one.text_is in (
      rw c.as_ref-shape.ensures one.is_shape.4,
      rw (c.as_slice.ensures.value, c.len.ensures.len, c.as_ref-shape.ensures) (take_rest one.text (length label + 1) ∙ shown.1),
      rw c.as_ref-shape.ensures one.is_shape.5,
    )
