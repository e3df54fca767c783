use Rattle.std.proofs.Common.{Some}
use Rattle.std.proofs.lemmas.Bool.Decides.{Decides-eqb}
use Rattle.std.proofs.lemmas.Slice.Eq.{strip_prefix_is}
use Rattle.message_signature.proofs.ListShapes.{behind_front}
use Rattle.message_signature.proofs.list_shape.ShapedList.params_in.Goals as goal

pub returns-clause-text : goal.returns-clause-text
returns-clause-text c =
    let rest = c.in_ok-strip_prefix.field-0 in
    let parts = strip_prefix_is Decides-eqb c.args.input.now c.as_slice.result.now (Some rest) c.in_ok-strip_prefix.ensures.cases in
    behind_front c.args.input.now c.args.self.now.shape.value.front rest.now c.plain_params.result
    (rw (c.as_slice.ensures.value, c.as_ref.ensures) at parts) c.plain_params.ensures
