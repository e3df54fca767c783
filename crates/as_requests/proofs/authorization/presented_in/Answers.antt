use Rattle.std.proofs.Common.{sym, ◌∙◌}
use Rattle.as_requests.proofs.Authorizations.{passed, first, second}
use Rattle.as_requests.proofs.authorization.presented_in.Goals.{then-eq+else-is_some, else-eq}
use Rattle.as_requests.proofs.authorization.presented_in.Goals as goal

pub returns-then-is_some : goal.returns-then-is_some
returns-then-is_some c =
    let at = rw c.as_slice-field-items.ensures at c.field-item.is in
    let lt = rw c.as_slice-field-items.ensures at c.loop-field-test.true in
    let named = rw (c.as_slice.ensures.value, c.as_slice-in-loop-field.ensures) at (sym c.eq.ensures ∙ c.if-eq.true) in
    sym (second (λ v. v.now) c.args.fields.now c.loop-field.field-index c.field-item.result lt at c.loop-field.found c.loop-field.invariant named
    (sym c.is_some.ensures ∙ c.if-is_some.true))

pub loop-field-preserved : goal.loop-field-preserved
loop-field-preserved c =
    let at = rw c.as_slice-field-items.ensures at c.field-item.is in
    let lt = rw c.as_slice-field-items.ensures at c.loop-field-test.true in
    elim c.if-eq.branch [
      | then-eq+else-is_some w ↦
          let named = rw (c.as_slice.ensures.value, c.as_slice-in-loop-field.ensures) at (sym c.eq.ensures ∙ w.if-eq.true) in
          rw (w.found-is, w.as_slice-then-eq.ensures.value)
          (first (λ v. v.now) c.args.fields.now c.loop-field.field-index c.field-item.result lt at c.loop-field.found c.loop-field.invariant named
          (sym w.is_some.ensures ∙ w.if-is_some.false))
      | else-eq w ↦
          let other = rw (c.as_slice.ensures.value, c.as_slice-in-loop-field.ensures) at (sym c.eq.ensures ∙ w.if-eq.false) in
          rw w.found-is (passed (λ v. v.now) c.args.fields.now c.loop-field.field-index c.field-item.result lt at c.loop-field.found c.loop-field.invariant
          other)
    ]
