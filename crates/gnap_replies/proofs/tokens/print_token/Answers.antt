use Rattle.std.proofs.Common.{codes, refl}
use Rattle.json.specs.Print.{escape_byte}
use Rattle.gnap_replies.specs.Tokens.{token_fields, token_data}
use Rattle.gnap_replies.proofs.Printing.{first_name, has_object}
use Rattle.gnap_replies.proofs.tokens.print_token.Goals as goal

pub returns : goal.returns
unfolding token_data escape_byte
returns c p printed =
    let access = c.print_rights.ensures _ (first_name c.begin.new.self p (codes "access") (c.begin.ensures p printed)) in
    let flags = c.print_flags.ensures _ (c.number.ensures _ (c.begin-2.ensures _ access)) in
    let label = c.print_optional.ensures _ flags in
    let manage = rw c.as_slice.ensures at c.print_manage.ensures _ (c.begin-3.ensures _ label) in
    let value = rw c.as_slice-2.ensures at c.string.ensures _ (c.begin-4.ensures _ manage) in
    has_object c.end.new.self p (token_fields c.args.base.now c.args.token.now) refl (c.end.ensures _ value)
