use Rattle.std.proofs.Common.{refl}
use Rattle.json.specs.Print.{escape_byte}
use Rattle.gnap_replies.specs.Grants.{granted_fields}
use Rattle.gnap_replies.proofs.Printing.{has_object}
use Rattle.gnap_replies.proofs.grants.print_granted.Goals as goal

pub returns : goal.returns
unfolding escape_byte
returns c p printed =
    has_object c.end.new.self p (granted_fields c.args.base.now c.args.door.now c.args.tokens.now c.args.single c.args.subject.now c.args.instance.now) refl
    (c.end.ensures _ (c.print_subject.ensures _ (c.print_optional.ensures _
    (c.print_continue.ensures _ (c.begin-2.ensures _
    (c.print_tokens.ensures _ (c.begin.ensures p printed)))))))
