use Rattle.std.proofs.Common.{codes, refl}
use Rattle.json.specs.Print.{escape_byte}
use Rattle.gnap_replies.specs.Errors.{code_fields}
use Rattle.gnap_replies.proofs.Printing.{first_name, has_object}
use Rattle.gnap_replies.proofs.errors.print_code.Goals as goal

pub returns : goal.returns
unfolding escape_byte
returns c p printed = has_object c.end.new.self p (code_fields c.args.code) refl
    (c.end.ensures _ (rw (c.as_bytes.ensures.value, c.text.ensures) at c.string.ensures _
    (first_name c.begin.new.self p (codes "code") (c.begin.ensures p printed))))
