use Rattle.std.proofs.Common.{codes, refl}
use Rattle.json.specs.Print.{escape_byte}
use Rattle.gnap_replies.specs.Grants.{interact_fields, interact_data}
use Rattle.gnap_replies.proofs.Printing.{first_name, has_object}
use Rattle.gnap_replies.proofs.grants.print_interact.Goals as goal

pub returns : goal.returns
unfolding interact_data escape_byte
returns c p printed =
    has_object c.end.new.self p (interact_fields c.args.front.now c.args.modes.now c.args.handle.now c.args.code.now c.args.nonce.now c.args.expires_in) refl
    (c.end.ensures _ (c.print_user_code_uri.ensures _ (c.print_offered-2.ensures _ (c.print_redirect.ensures _
    (rw c.is_some.ensures at c.print_offered.ensures _ (c.number.ensures _
    (first_name c.begin.new.self p (codes "expires_in") (c.begin.ensures p printed))))))))
