use Rattle.std.proofs.lemmas.Result.{err_from_is_err_and}
use Rattle.dictionary_lookup.proofs.StringLists.{items_fail, params_fail, list_is}
use Rattle.dictionary_lookup.proofs.string_lists.list_read.Goals as goal

pub returns-in_err-items : goal.returns-in_err-items
returns-in_err-items c = let p = err_from_is_err_and c.from_residual.result c.from_residual.ensures.1 in rw (p.1, p.2)
    (items_fail c.args.name.now c.args.s.now c.in_err-items.field-0.0 c.args.bytes.now c.in_err-items.ensures)

pub returns-in_err-params : goal.returns-in_err-params
returns-in_err-params c = let p = err_from_is_err_and c.from_residual-in_err-params.result c.from_residual-in_err-params.ensures.1 in rw (p.1, p.2)
    (params_fail c.args.name.now c.args.s.now c.args.bytes.now c.in_ok-items.items c.in_ok-items.rest.now c.in_ok-items.ensures c.in_err-params.field-0.0
    c.in_err-params.ensures)

pub returns : goal.returns
returns c =
    rw (c.list_of.ensures, c.holds_string-matched.ensures, c.get.ensures)
    (list_is c.args.name.now c.args.s.now c.args.bytes.now c.in_ok-items.items c.in_ok-items.rest.now c.in_ok-items.ensures c.in_ok-params.params
    c.in_ok-params.rest.now c.in_ok-params.ensures)
