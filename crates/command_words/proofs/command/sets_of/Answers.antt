use Rattle.std.proofs.Common.{[]}
use Rattle.std.proofs.lemmas.Result.{err_from_is_err_and}
use Rattle.command_words.proofs.WordCounts.{sets_wrong, sets_right}
use Rattle.command_words.proofs.command.sets_of.Goals as goal

pub returns-in_err-served-clause-read : goal.returns-in_err-served-clause-read
returns-in_err-served-clause-read c =
    let p = err_from_is_err_and c.from_residual.result c.from_residual.ensures.1 in
    rw (p.1, p.2) (sets_wrong _ _ _ _ _ c.in-Some.ensures.some c.in_err-served.field-0.0 (c.in_err-served.ensures.read []))

pub returns-clause-read : goal.returns-clause-read
returns-clause-read c = sets_right _ _ _ _ _ c.in-Some.ensures.some c.in_ok-served.served (c.in_ok-served.ensures.read [])
