use Rattle.std.proofs.Common.{codes, refl}
use Rattle.json.specs.Print.{escape_byte}
use Rattle.gnap_replies.specs.Grants.{code_page_fields}
use Rattle.gnap_replies.proofs.Printing.{first_name, has_object}
use Rattle.gnap_replies.proofs.grants.print_code_page.Goals as goal

pub returns : goal.returns
unfolding escape_byte
returns c p printed = has_object c.end.new.self p (code_page_fields c.args.front.now c.args.code.now) refl
    (c.end.ensures _ (c.print_place.ensures _ (c.begin-2.ensures _ (c.string.ensures _
    (first_name c.begin.new.self p (codes "code") (c.begin.ensures p printed))))))
