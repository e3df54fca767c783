use Rattle.message_signature.proofs.SigningSteps.{covered_items}
use Rattle.message_signature.proofs.signing.covered_items.Goals as goal

pub returns : goal.returns
returns c =
    rw (
      c.in_ok-push_if-2.ensures,
      c.in_ok-push_if.ensures,
      c.in_ok-push_component-2.ensures,
      c.in_ok-push_component.ensures,
      c.new-items.ensures,
    )
    (covered_items c.args.message.now c.has_body.result c.has_field.result c.has_body.ensures c.has_field.ensures)
