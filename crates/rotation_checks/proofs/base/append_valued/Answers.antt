use Rattle.std.proofs.Common.{sym, subst}
use Rattle.std.specs.Prelude.{codes}
use Rattle.structured_fields.specs.Canonical.{item_text}
use Rattle.message_signature.specs.Faults.{GivesBase}
use Rattle.rotation_checks.specs.RotationBase.{value_of}
use Rattle.rotation_checks.proofs.RotationLines.{valued_line}
use Rattle.rotation_checks.proofs.base.append_valued.Goals as goal

pub returns : goal.returns
returns c =
    subst (GivesBase (λ b. b) c.append_bytes-2.result)
    (sym (valued_line c.args.text (item_text c.args.item.now) (codes ": ") (codes "\n")
    (value_of c.args.message.now c.args.base.now c.args.fields.now c.args.name.now c.args.item.now.params)
    c.in_ok-named.named c.in_ok-parted.parted c.in_ok-valued.valued c.in_ok-named.ensures c.in_ok-parted.ensures c.in_ok-valued.ensures)) c.append_bytes-2.ensures
