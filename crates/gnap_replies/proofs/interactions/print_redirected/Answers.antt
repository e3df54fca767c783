use Rattle.std.proofs.Common.{codes, refl}
use Rattle.json.specs.Print.{escape_byte}
use Rattle.gnap_replies.specs.Interactions.{redirected_fields}
use Rattle.gnap_replies.proofs.Printing.{first_name, has_object}
use Rattle.gnap_replies.proofs.interactions.print_redirected.Goals as goal

pub returns : goal.returns
unfolding escape_byte
returns c p printed = has_object c.end.new.self p (redirected_fields c.args.base.now c.args.finish.now) refl
    (c.end.ensures _ (c.print_redirected_uri.ensures _ (c.value.ensures _
    (first_name c.begin.new.self p (codes "finish") (c.begin.ensures p printed)))))
