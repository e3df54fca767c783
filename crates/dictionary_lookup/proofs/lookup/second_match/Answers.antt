use Rattle.std.proofs.Common.{sym, ◌∙◌}
use Rattle.std.specs.Str.{bytes_eq}
use Rattle.std.proofs.lemmas.Bool.{or_parts}
use Rattle.std.proofs.lemmas.Result.{err_from_is_err_and}
use Rattle.dictionary_lookup.specs.declared.lookup.Matched.TheVariants.{Once}
use Rattle.dictionary_lookup.specs.Skipping.{entry_matched}
use Rattle.structured_fields.specs.Reading.{entry_at}
use Rattle.dictionary_lookup.proofs.Behind.{fails_mapped}
use Rattle.dictionary_lookup.proofs.SkippedEntries.{left_open, still_one}
use Rattle.dictionary_lookup.proofs.lookup.second_match.Goals as goal

pub returns-in_err-skipped-clause-err : goal.returns-in_err-skipped-clause-err
returns-in_err-skipped-clause-err c = let p = err_from_is_err_and c.from_residual.result c.from_residual.ensures.1 in rw (p.1, p.2)
    (fails_mapped (entry_matched c.args.name.now c.args.s.now) c.in_err-skipped.field-0.0 (entry_at c.args.bytes.now) c.in_err-skipped.ensures)

pub returns-then-unsettles-clause-ok : goal.returns-then-unsettles-clause-ok
returns-then-unsettles-clause-ok c =
    left_open c.args.name.now c.args.s.now c.args.bytes.now c.in_ok-skipped.skipped.key.now c.in_ok-skipped.skipped.matched c.in_ok-skipped.skipped.rest.now
    c.in_ok-skipped.ensures (Once c.args.one)

pub returns-clause-ok : goal.returns-clause-ok
returns-clause-ok c =
    let skipped = c.in_ok-skipped.skipped in
    let parts = or_parts skipped.matched (bytes_eq c.args.one.key.now skipped.key.now) (sym c.unsettles.ensures ∙ c.if-unsettles.false) in
    still_one c.args.name.now c.args.s.now c.args.bytes.now skipped.key.now skipped.matched skipped.rest.now c.in_ok-skipped.ensures c.args.one parts.0 parts.1
