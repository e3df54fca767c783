use Rattle.std.proofs.Common.{◌≡◌, false, sym, ◌∙◌, rules}
use Rattle.structured_fields.specs.Letters.{is_plain}
use Rattle.dictionary_lookup.specs.Skipping.{rest_of}
use Rattle.structured_fields.specs.Reading.{behind, string_rest}
use Rattle.dictionary_lookup.proofs.Behind.{string_begins, string_closed, string_refused}
use Rattle.dictionary_lookup.proofs.skipping.behind_string.Goals as goal

pub loop-i-init : goal.loop-i-init
loop-i-init c =
    let at = c.plain_run.ensures.len in
    let rest : c.split_at.result.1.now ≡ behind is_plain c.args.bytes.now = search rules in
    rw rest (string_begins c.args.bytes.now)

pub returns-then-c-eq34 : goal.returns-then-c-eq34
returns-then-c-eq34 c = string_closed c.split_at.result.1.now c.loop-i.i (rest_of (string_rest false c.args.bytes.now)) c.loop-i-test.true
    (rw c.if-escaped.false at c.loop-i.invariant) c.if-c-eq34.true

pub returns-then-not-is_string_byte : goal.returns-then-not-is_string_byte
returns-then-not-is_string_byte c =
    string_refused c.split_at.result.1.now c.loop-i.i (rest_of (string_rest false c.args.bytes.now)) c.loop-i-test.true
    (rw c.if-escaped.false at c.loop-i.invariant)
    c.if-c-eq34.false c.if-c-eq92.false (sym c.is_string_byte.ensures ∙ c.if-not-is_string_byte.true)
