use Rattle.std.proofs.Common.{refl, sym}
use Rattle.std.proofs.lemmas.Result.{err_from_is_err_and}
use Rattle.dictionary_lookup.specs.Skipping.{member_read}
use Rattle.dictionary_lookup.proofs.SkippedEntries.{entry_none, entry_failed, entry_passed, entry_first}
use Rattle.dictionary_lookup.proofs.lookup.first_match.Goals as goal

pub returns-in_default-clause-err : goal.returns-in_default-clause-err
returns-in_default-clause-err c = entry_none c.args.bytes.now (sym c.in_default.ensures)

pub returns-in_err-strings-clause-err : goal.returns-in_err-strings-clause-err
returns-in_err-strings-clause-err c = let p = err_from_is_err_and c.from_residual.result c.from_residual.ensures.1 in rw (p.1, p.2)
    (entry_failed c.args.bytes.now c.in-Some.key.now c.in-Some.value.now (sym c.in-Some.ensures) (member_read c.args.name.now c.args.s.now)
    c.in_err-strings.field-0.0 c.in_err-strings.ensures)

pub returns-then-not-matched-clause-ok : goal.returns-then-not-matched-clause-ok
returns-then-not-matched-clause-ok c =
    entry_passed c.args.bytes.now c.in-Some.key.now c.in-Some.value.now (sym c.in-Some.ensures) c.args.name.now c.args.s.now c.in_ok-strings.rest.now
    c.in_ok-strings.strings c.in_ok-strings.matched c.in_ok-strings.ensures c.if-not-matched.true

pub returns-clause-ok : goal.returns-clause-ok
returns-clause-ok c =
    entry_first c.args.bytes.now c.in-Some.key.now c.in-Some.value.now (sym c.in-Some.ensures) c.args.name.now c.args.s.now c.in_ok-strings.rest.now
    (record { key = c.in-Some.key; strings = c.in_ok-strings.strings }) c.in_ok-strings.matched refl c.in_ok-strings.ensures c.if-not-matched.false
