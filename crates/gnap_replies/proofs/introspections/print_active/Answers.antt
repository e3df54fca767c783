use Rattle.std.proofs.Common.{codes, refl}
use Rattle.json.specs.Print.{escape_byte}
use Rattle.serde_json.specs.Written.{compact_text}
use Rattle.access_rights.specs.Printing.{rights_data}
use Rattle.gnap_replies.specs.Printing.{then_value, then_begin, then_name}
use Rattle.gnap_replies.specs.Introspections.{active_fields}
use Rattle.gnap_replies.proofs.Printing.{first_name, value_and_name, has_object}
use Rattle.gnap_replies.proofs.introspections.print_active.Goals as goal

pub returns : goal.returns
unfolding escape_byte
returns c p printed =
    let access = c.print_rights.ensures _ (first_name c.begin.new.self p (codes "access") (c.begin.ensures p printed)) in
    let shown = then_value (then_name (then_begin p (codes "{")) (codes "access")) (compact_text (rights_data c.args.access.now)) in
    let active = value_and_name c.begin-2.new.self shown (codes "active") (codes "true") (codes "exp") (c.begin-2.ensures _ access) in
    let flags = c.print_flags.ensures _ (c.number.ensures _ active) in
    has_object c.end.new.self p (active_fields c.args.base.now c.args.access.now c.args.iat c.args.exp c.args.instance.now c.args.bearer) refl
    (c.end.ensures _ (c.print_key.ensures _
    (c.print_place.ensures _ (c.begin-5.ensures _
    (c.string.ensures _ (c.begin-4.ensures _
    (c.number-2.ensures _ (c.begin-3.ensures _ flags))))))))
