use Rattle.std.proofs.Common.{codes, refl}
use Rattle.json.specs.Print.{escape_byte}
use Rattle.gnap_replies.specs.Interactions.{ask_fields, ask_data}
use Rattle.gnap_replies.proofs.Printing.{first_name, has_object}
use Rattle.gnap_replies.proofs.interactions.print_ask.Goals as goal

pub returns : goal.returns
unfolding ask_data escape_byte
returns c p printed = has_object c.end.new.self p (ask_fields c.args.ask.now) refl
    (c.end.ensures _ (c.print_optional.ensures _ (c.print_flags.ensures _
    (c.print_rights.ensures _ (first_name c.begin.new.self p (codes "access") (c.begin.ensures p printed))))))
