use Rattle.std.proofs.Common.{codes, refl}
use Rattle.json.specs.Print.{escape_byte}
use Rattle.gnap_replies.specs.Grants.{rotated_fields}
use Rattle.gnap_replies.proofs.Printing.{first_name, has_object}
use Rattle.gnap_replies.proofs.grants.print_rotated.Goals as goal

pub returns : goal.returns
unfolding escape_byte
returns c p printed = has_object c.end.new.self p (rotated_fields c.args.base.now c.args.token.now) refl
    (c.end.ensures _ (c.print_token.ensures _ (first_name c.begin.new.self p (codes "access_token") (c.begin.ensures p printed))))
