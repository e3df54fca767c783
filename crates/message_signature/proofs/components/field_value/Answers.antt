use Rattle.std.proofs.Common.{sym, ap, ◌∙◌, Some}
use Rattle.message_signature.proofs.Fields.{field_none, field_more, field_same}
use Rattle.message_signature.proofs.components.field_value.Goals.{then-eq+in_ok-with_next, else-eq}
use Rattle.message_signature.proofs.components.field_value.Goals as goal

pub loop-field-init : goal.loop-field-init
loop-field-init c = sym (field_none c.args.name.now)

pub loop-field-preserved : goal.loop-field-preserved
loop-field-preserved c =
    let at = rw c.as_slice-field-items.ensures at c.field-item.is in
    let lt = rw c.as_slice-field-items.ensures at c.loop-field-test.true in
    elim c.if-eq.branch [
      | then-eq+in_ok-with_next w ↦
          let more = field_more c.args.name.now c.args.fields.now c.loop-field.field-index c.field-item.result at lt
          (rw c.as_slice.ensures.value at (sym c.eq.ensures ∙ w.if-eq.true)) in
          let value = rw w.as_slice-then-eq.ensures.value at w.trimmed.ensures in
          rw (w.found-is, more) (ap Some (rw (value, c.loop-field.invariant) at w.in_ok-with_next.ensures))
      | else-eq w ↦
          let same = field_same c.args.name.now c.args.fields.now c.loop-field.field-index c.field-item.result at lt
          (rw c.as_slice.ensures.value at (sym c.eq.ensures ∙ w.if-eq.false)) in
          rw (w.found-is, same) c.loop-field.invariant
    ]
