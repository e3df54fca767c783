use Rattle.std.proofs.Common.{[], ◌∷◌, append_assoc}
use Rattle.std.specs.Prelude.{codes}
use Rattle.key_rotation.specs.SignedRotation.{member_item}
use Rattle.key_rotation.proofs.signing.push_members.Goals as goal

pub returns : goal.returns
returns c =
    rw (c.in_ok-push-2.ensures.ok, c.in_ok-push.ensures.ok, c.in_ok-member_item.ensures, c.in_ok-member_item-2.ensures)
    (append_assoc c.args.items.now (member_item (codes "signature") ∷ []) (member_item (codes "signature-input") ∷ []))
