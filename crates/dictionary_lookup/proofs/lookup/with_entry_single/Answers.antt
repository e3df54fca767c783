use Rattle.std.proofs.Common.{[], sym, ◌∙◌}
use Rattle.std.proofs.lemmas.Result.{err_from_is_err_and}
use Rattle.dictionary_lookup.specs.Skipping.{member_matched, single_read}
use Rattle.dictionary_lookup.proofs.SkippedEntries.{entry_none, entry_failed, single_there, single_elsewhere}
use Rattle.dictionary_lookup.proofs.lookup.with_entry_single.Goals as goal

pub returns-in_default-clause-err : goal.returns-in_default-clause-err
returns-in_default-clause-err c = entry_none c.args.bytes.now (sym c.in_default.ensures)

pub returns-in_err-rest-clause-err : goal.returns-in_err-rest-clause-err
returns-in_err-rest-clause-err c = let p = err_from_is_err_and c.from_residual-in_err-rest.result c.from_residual-in_err-rest.ensures.1 in rw (p.1, p.2)
    (entry_failed c.args.bytes.now c.in-Some.name.now c.in-Some.value.now (sym c.in-Some.ensures) (member_matched [] []) c.in_err-rest.field-0.0
    c.in_err-rest.ensures)

pub returns-in_err-single-clause-err : goal.returns-in_err-single-clause-err
returns-in_err-single-clause-err c = let p = err_from_is_err_and c.from_residual.result c.from_residual.ensures.1 in rw (p.1, p.2)
    (entry_failed c.args.bytes.now c.in-Some.name.now c.in-Some.value.now (sym c.in-Some.ensures) single_read c.in_err-single.field-0.0
    c.in_err-single.ensures)

pub returns-then-eq-clause-ok : goal.returns-then-eq-clause-ok
returns-then-eq-clause-ok c =
    single_there c.args.bytes.now c.in-Some.name.now c.in-Some.value.now (sym c.in-Some.ensures) c.args.key.now c.args.found c.in_ok-single.single
    c.in_ok-single.rest.now (sym c.eq.ensures ∙ c.if-eq.true) c.in_ok-single.ensures

pub returns-clause-ok : goal.returns-clause-ok
returns-clause-ok c =
    single_elsewhere c.args.bytes.now c.in-Some.name.now c.in-Some.value.now (sym c.in-Some.ensures) c.args.key.now c.args.found c.in_ok-rest.field-0-0
    c.in_ok-rest.rest.now (sym c.eq.ensures ∙ c.if-eq.false) c.in_ok-rest.ensures
