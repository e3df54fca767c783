use Rattle.std.proofs.Common.{codes, refl}
use Rattle.json.specs.Print.{escape_byte}
use Rattle.gnap_replies.specs.Grants.{continue_fields, continue_data}
use Rattle.gnap_replies.proofs.Printing.{first_name, has_object}
use Rattle.gnap_replies.proofs.grants.print_continue.Goals as goal

pub returns : goal.returns
unfolding continue_data escape_byte
returns c p printed = has_object c.end.new.self p (continue_fields c.args.base.now c.args.door.now) refl
    (c.end.ensures _ (c.number.ensures _ (c.begin-3.ensures _
    (c.print_place.ensures _ (c.begin-2.ensures _
    (c.print_bare_token.ensures _ (first_name c.begin.new.self p (codes "access_token") (c.begin.ensures p printed))))))))
