use Rattle.std.proofs.Common.{arith}
use Rattle.std.proofs.lemmas.Bool.Decides.{nat_tests}
use Rattle.gnap_history.proofs.Bounds.{live_tokens-unexpired, other_live_tokens-le}
use Rattle.gnap_history.proofs.limits.others_pass_limit.Goals as goal

pub returns-then-unexpired-more-le-LIVE_LIMIT : goal.returns-then-unexpired-more-le-LIVE_LIMIT
returns-then-unexpired-more-le-LIVE_LIMIT c =
    let le = live_tokens-unexpired c.args.notes.now c.args.now in
    let fewer = other_live_tokens-le c.args.notes.now c.args.now c.args.opening.now in grind (arith, nat_tests, le, fewer)
