use Rattle.std.proofs.Common.{codes, refl}
use Rattle.json.specs.Print.{escape_byte}
use Rattle.gnap_replies.specs.Grants.{sub_id_fields}
use Rattle.gnap_replies.proofs.Printing.{first_name, has_object}
use Rattle.gnap_replies.proofs.grants.print_sub_id.Goals as goal

pub returns : goal.returns
unfolding escape_byte
returns c p printed = has_object c.end.new.self p (sub_id_fields c.args.id.now) refl
    (c.end.ensures _ (c.string.ensures _ (c.begin-2.ensures _ (c.value.ensures _
    (first_name c.begin.new.self p (codes "format") (c.begin.ensures p printed))))))
