use Rattle.std.proofs.Common.{codes, refl}
use Rattle.json.specs.Print.{escape_byte}
use Rattle.gnap_replies.specs.Interactions.{shown_fields}
use Rattle.gnap_replies.proofs.Printing.{first_name, has_object}
use Rattle.gnap_replies.proofs.interactions.print_shown.Goals as goal

pub returns : goal.returns
unfolding escape_byte
returns c p printed = has_object c.end.new.self p (shown_fields c.args.asks.now c.args.client.now c.args.expires_in c.args.subject c.args.user.now) refl
    (c.end.ensures _ (c.print_optional.ensures _
    (c.print_truth.ensures _ (c.begin-4.ensures _
    (c.number.ensures _ (c.begin-3.ensures _
    (c.string.ensures _ (c.begin-2.ensures _
    (c.print_asks.ensures _ (first_name c.begin.new.self p (codes "access_token") (c.begin.ensures p printed)))))))))))
