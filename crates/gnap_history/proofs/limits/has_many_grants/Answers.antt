use Rattle.std.proofs.Common.{◌∙◌, arith, sym}
use Rattle.std.proofs.lemmas.Bool.Decides.{nat_tests}
use Rattle.gnap_history.proofs.Bounds.{live_grants-le, live_grants-all}
use Rattle.gnap_history.proofs.limits.has_many_grants.Goals as goal

pub returns-then-grants-lt-LIVE_LIMIT : goal.returns-then-grants-lt-LIVE_LIMIT
returns-then-grants-lt-LIVE_LIMIT c = let le = live_grants-le c.args.notes.now c.args.now in grind (arith, nat_tests, le)

pub returns-then-goes_on : goal.returns-then-goes_on
returns-then-goes_on c =
    let all = live_grants-all c.args.notes.now c.args.now (sym (rw c.as_slice.ensures at c.goes_on.ensures) ∙ c.if-goes_on.true) in
    grind (arith, nat_tests, all)
