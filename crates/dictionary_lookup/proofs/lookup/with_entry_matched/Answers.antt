use Rattle.std.proofs.lemmas.Result.{err_from_is_err_and}
use Rattle.dictionary_lookup.specs.declared.lookup.Matched.TheVariants.{Unsettled}
use Rattle.dictionary_lookup.specs.Skipping.{entry_matched}
use Rattle.structured_fields.specs.Reading.{entry_at}
use Rattle.dictionary_lookup.proofs.Behind.{fails_mapped}
use Rattle.dictionary_lookup.proofs.SkippedEntries.{left_open}
use Rattle.dictionary_lookup.proofs.lookup.with_entry_matched.Goals as goal

pub returns-in_err-skipped-in-Unsettled-clause-err : goal.returns-in_err-skipped-in-Unsettled-clause-err
returns-in_err-skipped-in-Unsettled-clause-err c = let p = err_from_is_err_and c.from_residual.result c.from_residual.ensures.1 in rw (p.1, p.2)
    (fails_mapped (entry_matched c.args.name.now c.args.s.now) c.in_err-skipped-in-Unsettled.field-0.0 (entry_at c.args.bytes.now)
    c.in_err-skipped-in-Unsettled.ensures)

pub returns-in_ok-skipped-in-Unsettled-clause-ok : goal.returns-in_ok-skipped-in-Unsettled-clause-ok
returns-in_ok-skipped-in-Unsettled-clause-ok c =
    let skipped = c.in_ok-skipped-in-Unsettled.skipped in
    left_open c.args.name.now c.args.s.now c.args.bytes.now skipped.key.now skipped.matched skipped.rest.now c.in_ok-skipped-in-Unsettled.ensures c.args.found
