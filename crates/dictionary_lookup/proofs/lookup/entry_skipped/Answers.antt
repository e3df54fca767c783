use Rattle.std.proofs.Common.{sym, ap}
use Rattle.std.specs.Option.{option_map}
use Rattle.std.proofs.lemmas.Result.{err_from_is_err_and}
use Rattle.dictionary_lookup.specs.Skipping.{entry_matched}
use Rattle.dictionary_lookup.proofs.SkippedEntries.{entry_none, entry_read, skip_failed}
use Rattle.dictionary_lookup.proofs.lookup.entry_skipped.Goals as goal

pub returns-in_default : goal.returns-in_default
returns-in_default c = ap (option_map (entry_matched c.args.name.now c.args.s.now)) (entry_none c.args.bytes.now (sym c.in_default.ensures))

pub returns-in_err-matched : goal.returns-in_err-matched
returns-in_err-matched c = let p = err_from_is_err_and c.from_residual.result c.from_residual.ensures.1 in rw (p.1, p.2)
    (skip_failed c.args.bytes.now c.in-Some.key.now c.in-Some.value.now (sym c.in-Some.ensures) c.args.name.now c.args.s.now
    c.in_err-matched.field-0.0 c.in_err-matched.ensures)

pub returns : goal.returns
returns c =
    entry_read c.args.bytes.now c.in-Some.key.now c.in-Some.value.now (sym c.in-Some.ensures) c.args.name.now c.args.s.now c.in_ok-matched.matched
    c.in_ok-matched.rest.now c.in_ok-matched.ensures
