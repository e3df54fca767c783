use Rattle.std.proofs.Common.{codes, refl}
use Rattle.json.specs.Print.{escape_byte}
use Rattle.gnap_replies.specs.Interactions.{handle_fields}
use Rattle.gnap_replies.proofs.Printing.{first_name, has_object}
use Rattle.gnap_replies.proofs.interactions.print_handle.Goals as goal

pub returns : goal.returns
unfolding escape_byte
returns c p printed = has_object c.end.new.self p (handle_fields c.args.handle.now) refl
    (c.end.ensures _ (c.string.ensures _ (first_name c.begin.new.self p (codes "handle") (c.begin.ensures p printed))))
