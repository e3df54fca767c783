use Rattle.std.proofs.Common.{◌∙◌, arith, sym}
use Rattle.std.proofs.lemmas.Bool.Decides.{nat_tests}
use Rattle.gnap_history.proofs.Bounds.{live_tokens-le, live_tokens-unexpired, live_tokens-all}
use Rattle.gnap_history.proofs.limits.passes_limit.Goals as goal

pub returns-then-tokens-more-le-LIVE_LIMIT : goal.returns-then-tokens-more-le-LIVE_LIMIT
returns-then-tokens-more-le-LIVE_LIMIT c = let le = live_tokens-le c.args.notes.now c.args.now in grind (arith, nat_tests, le)

pub returns-then-unexpired_tokens-more-le-LIVE_LIMIT : goal.returns-then-unexpired_tokens-more-le-LIVE_LIMIT
returns-then-unexpired_tokens-more-le-LIVE_LIMIT c =
    let le = live_tokens-unexpired c.args.notes.now c.args.now in
    let counted = rw c.as_slice.ensures at c.unexpired_tokens.ensures.count in grind (arith, nat_tests, le, counted)

pub returns-then-goes_on : goal.returns-then-goes_on
returns-then-goes_on c =
    let all = live_tokens-all c.args.notes.now c.args.now (sym (rw c.as_slice-2.ensures at c.goes_on.ensures) ∙ c.if-goes_on.true) in
    let counted = rw c.as_slice.ensures at c.unexpired_tokens.ensures.count in grind (arith, nat_tests, all, counted)
