use Rattle.std.proofs.Common.{codes, refl}
use Rattle.json.specs.Print.{escape_byte}
use Rattle.gnap_replies.specs.Errors.{error_fields}
use Rattle.gnap_replies.proofs.Printing.{first_name, has_object}
use Rattle.gnap_replies.proofs.errors.print_error_body.Goals as goal

pub returns : goal.returns
unfolding escape_byte
returns c p printed = has_object c.end.new.self p (error_fields c.args.code) refl
    (c.end.ensures _ (c.print_code.ensures _ (first_name c.begin.new.self p (codes "error") (c.begin.ensures p printed))))
