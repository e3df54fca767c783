use Rattle.std.proofs.Common.{codes, refl}
use Rattle.json.specs.Print.{escape_byte}
use Rattle.gnap_replies.specs.Grants.{subject_fields}
use Rattle.gnap_replies.proofs.Printing.{first_name, has_object}
use Rattle.gnap_replies.proofs.grants.print_identified.Goals as goal

pub returns : goal.returns
unfolding escape_byte
returns c p printed = has_object c.end.new.self p (subject_fields c.args.id.now) refl
    (c.end.ensures _ (c.print_sub_ids.ensures _ (first_name c.begin.new.self p (codes "sub_ids") (c.begin.ensures p printed))))
