use Rattle.std.proofs.Common.{sym, subst}
use Rattle.message_signature.specs.declared.tags.SignatureFields.{SignatureFields}
use Rattle.message_signature.specs.Faults.{GivesBase}
use Rattle.rotation_checks.specs.RotationBase.{base_with}
use Rattle.rotation_checks.proofs.Members.{members_are}
use Rattle.rotation_checks.proofs.base.base_over.Goals as goal

pub returns : goal.returns
returns c =
    subst (λ (fields : SignatureFields). GivesBase (λ b. b) c.base_with.result (base_with c.args.message.now c.args.base.now fields c.args.list.now))
    (sym (members_are c.args.message.now c.args.fields.now c.requires)) c.base_with.ensures
