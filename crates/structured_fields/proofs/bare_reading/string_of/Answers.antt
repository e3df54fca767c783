use Rattle.std.proofs.Common.{◌≡◌, true, false, drop, None, refl, ap, sym, ◌∙◌, rules}
use Rattle.structured_fields.specs.Letters.{is_plain}
use Rattle.structured_fields.specs.Reading.{front, behind, string_rest}
use Rattle.structured_fields.proofs.Runs.{with_front, opened_true, ended, closed, refused, plain_front}
use Rattle.structured_fields.proofs.bare_reading.string_of.Goals as goal

pub returns-then-c-eq34 : goal.returns-then-c-eq34
returns-then-c-eq34 c = closed c.loop-i.held c.split_at.result.1.now c.loop-i.i (string_rest false c.args.bytes.now) c.loop-i-test.true c.if-c-eq34.true
    (rw c.if-escaped.false at c.loop-i.invariant)

pub returns-then-not-is_string_byte : goal.returns-then-not-is_string_byte
returns-then-not-is_string_byte c = refused c.loop-i.held c.split_at.result.1.now c.loop-i.i (string_rest false c.args.bytes.now) c.loop-i-test.true
    c.if-c-eq34.false c.if-c-eq92.false (sym c.is_string_byte.ensures ∙ c.if-not-is_string_byte.true) (rw c.if-escaped.false at c.loop-i.invariant)

pub loop-i-init : goal.loop-i-init
loop-i-init c =
    let at = c.plain_run.ensures.len in
    let held : c.in_ok-held.held ≡ front is_plain c.args.bytes.now = search rules in
    let rest : c.split_at.result.1.now ≡ behind is_plain c.args.bytes.now = search rules in
    rw (held, rest) (plain_front c.args.bytes.now)

pub returns-then-not-is_quoted : goal.returns-then-not-is_quoted
returns-then-not-is_quoted c =
    let none : string_rest true (drop c.loop-i.i c.split_at.result.1.now) ≡ None =
    opened_true c.split_at.result.1.now c.loop-i.i c.loop-i-test.true ∙ rw (sym c.is_quoted.ensures ∙ c.if-not-is_quoted.true) refl in
    sym (rw c.if-escaped.true at c.loop-i.invariant) ∙ ap (with_front c.loop-i.held) none

pub returns : goal.returns
returns c = sym c.loop-i.invariant ∙ ap (with_front c.loop-i.held) (ended c.loop-i.escaped c.split_at.result.1.now c.loop-i.i c.loop-i-test.false)
