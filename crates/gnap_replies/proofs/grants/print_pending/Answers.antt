use Rattle.std.proofs.Common.{codes, refl}
use Rattle.json.specs.Print.{escape_byte}
use Rattle.gnap_replies.specs.Grants.{interact_data, pending_fields}
use Rattle.gnap_replies.proofs.Printing.{first_name, has_object}
use Rattle.gnap_replies.proofs.grants.print_pending.Goals as goal

pub returns : goal.returns
unfolding escape_byte
returns c p printed =
    let interact = interact_data c.args.front.now c.args.modes.now c.args.handle.now c.args.code.now c.args.nonce.now c.args.expires_in in
    has_object c.end.new.self p (pending_fields c.args.base.now c.args.door.now interact c.args.instance.now) refl
    (c.end.ensures _ (c.print_interact.ensures _ (c.begin-2.ensures _ (c.print_optional.ensures _
    (c.print_continue.ensures _ (first_name c.begin.new.self p (codes "continue") (c.begin.ensures p printed)))))))
