use Rattle.std.proofs.Common.{sym, ◌∙◌, arith}
use Rattle.structured_fields.specs.declared.display_reading.Awaits.TheVariants.{Character}
use Rattle.structured_fields.specs.Reading.{display_bytes}
use Rattle.structured_fields.proofs.Displays.{percent_next, shown_next, refused_next, first_next, second_next, no_byte, whole, cut}
use Rattle.structured_fields.proofs.display_reading.bytes_of.Goals as goal
use Rattle.structured_fields.proofs.display_reading.bytes_of.Goals.{in-Character+then-c-eq37, in-Character+else-c-eq37+then-is_shown+in_ok-push-in-Character, in-FirstDigit, in-SecondDigit+in-Some+in_ok-push-in-SecondDigit}

pub returns-else-is_shown : goal.returns-else-is_shown
returns-else-is_shown c = refused_next c.loop-c.held c.args.text.now c.loop-c.c-index (display_bytes Character c.args.text.now) c.loop-c-test.true
    (rw c.in-Character.is at c.loop-c.invariant) c.if-c-eq37.false (sym c.is_shown.ensures ∙ c.if-is_shown.false)

pub returns-in_default : goal.returns-in_default
returns-in_default c = no_byte c.loop-c.held c.args.text.now c.loop-c.c-index (display_bytes Character c.args.text.now) c.loop-c-test.true
    c.in-SecondDigit.first
    (rw c.in-SecondDigit.is at c.loop-c.invariant) (sym c.byte_of.ensures ∙ c.in_default.is)

pub loop-c-preserved : goal.loop-c-preserved
loop-c-preserved c = elim c.match-awaits.branch [
  | in-Character+then-c-eq37 w ↦ rw (w.held-is, w.awaits-is)
      (percent_next c.loop-c.held c.args.text.now c.loop-c.c-index (display_bytes Character c.args.text.now) c.loop-c-test.true
      (rw w.in-Character.is at c.loop-c.invariant) w.if-c-eq37.true)
  | in-Character+else-c-eq37+then-is_shown+in_ok-push-in-Character w ↦ rw (w.held-is, w.awaits-is, w.in-Character.is, w.in_ok-push-in-Character.ensures.ok)
      (shown_next c.loop-c.held c.args.text.now c.loop-c.c-index (display_bytes Character c.args.text.now) c.loop-c-test.true
      (rw w.in-Character.is at c.loop-c.invariant) (sym w.is_shown.ensures ∙ w.if-is_shown.true))
  | in-FirstDigit w ↦ rw (w.held-is, w.awaits-is)
      (first_next c.loop-c.held c.args.text.now c.loop-c.c-index (display_bytes Character c.args.text.now) c.loop-c-test.true
      (rw w.in-FirstDigit.is at c.loop-c.invariant))
  | in-SecondDigit+in-Some+in_ok-push-in-SecondDigit w ↦ rw (w.held-is, w.awaits-is, w.in_ok-push-in-SecondDigit.ensures.ok)
      (second_next c.loop-c.held c.args.text.now c.loop-c.c-index (display_bytes Character c.args.text.now) c.loop-c-test.true w.in-SecondDigit.first
      w.in-Some.byte (rw w.in-SecondDigit.is at c.loop-c.invariant) (sym w.byte_of.ensures ∙ w.in-Some.is))
]

pub returns-in-Character-awaits : goal.returns-in-Character-awaits
returns-in-Character-awaits c = whole c.loop-c.held c.args.text.now c.loop-c.c-index (display_bytes Character c.args.text.now) (omega arith)
    (rw c.in-Character-awaits.is at c.loop-c.invariant)

pub returns-in_default-awaits : goal.returns-in_default-awaits
returns-in_default-awaits c = cut c.loop-c.held c.args.text.now c.loop-c.c-index (display_bytes Character c.args.text.now) (omega arith) c.loop-c.awaits
    c.in_default-awaits.not-Character c.loop-c.invariant
