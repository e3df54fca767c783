use Rattle.std.proofs.Common.{List, ap}
use Rattle.std.proofs.lemmas.Result.{on_ok_weaker}
use Rattle.structured_fields.specs.declared.item.Item.{Item}
use Rattle.structured_fields.specs.declared.item.InnerList.{InnerList}
use Rattle.message_signature.proofs.SignedBase.{always_based, signed_with}
use Rattle.message_signature.proofs.SigningSteps.{signature_range}
use Rattle.message_signature.proofs.signing.add_signature.Goals as goal

pub signature_of-requires : goal.signature_of-requires
signature_of-requires c = rw (c.in_ok-items.ensures, c.in_ok-add_digest.ensures.ok) (always_based c.args.message.now c.args.base.now c.args.params)

pub signature_lines-requires-clause-bytes : goal.signature_lines-requires-clause-bytes
signature_lines-requires-clause-bytes c = signature_range c.args.secret.now _ c.in_ok-bytes.bytes c.in_ok-bytes.ensures

pub returns-clause-ok : goal.returns-clause-ok
returns-clause-ok c =
    let with_items : List Item → InnerList = λ items. record { items = items; params = c.args.params } in
    on_ok_weaker c.append.result
    (λ e. signed_with c.args.message.now c.add_digest.new.message c.args.base.now c.args.params c.args.secret.now
    c.in_ok-bytes.bytes _ _ c.in_ok-lines.lines c.in_ok-add_digest.ensures.ok (ap with_items c.in_ok-items.ensures) c.in_ok-bytes.ensures c.in_ok-lines.ensures
    e)
    c.append.ensures.ok
