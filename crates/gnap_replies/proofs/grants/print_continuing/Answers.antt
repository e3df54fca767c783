use Rattle.std.proofs.Common.{codes, refl}
use Rattle.json.specs.Print.{escape_byte}
use Rattle.gnap_replies.specs.Grants.{continuing_fields}
use Rattle.gnap_replies.proofs.Printing.{first_name, has_object}
use Rattle.gnap_replies.proofs.grants.print_continuing.Goals as goal

pub returns : goal.returns
unfolding escape_byte
returns c p printed = has_object c.end.new.self p (continuing_fields c.args.base.now c.args.door.now) refl
    (c.end.ensures _ (c.print_continue.ensures _ (first_name c.begin.new.self p (codes "continue") (c.begin.ensures p printed))))
