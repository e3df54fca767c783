use Rattle.std.proofs.Common.{arith}
use Rattle.grant_states.specs.Listed.{under}
use Rattle.grant_states.proofs.ListedNumbers.{missing_under}
use Rattle.grant_states.proofs.numbers_by_key.place_under.Goals as goal

pub returns-else-listed-at-clause-missing : goal.returns-else-listed-at-clause-missing
returns-else-listed-at-clause-missing c = λ none.
    missing_under c.args.listed.now c.start_of-at.result c.loop-at.at c.args.key c.args.number (under 0 0) c.requires c.start_of-at.ensures.start c.loop-at.invariant.0
    c.loop-at.invariant.2
    (λ inside is. c.if-listed-at.false is)

pub returns-after-loop-at-clause-missing : goal.returns-after-loop-at-clause-missing
returns-after-loop-at-clause-missing c = λ none.
    missing_under c.args.listed.now c.start_of-at.result c.loop-at.at c.args.key c.args.number (under 0 0) c.requires c.start_of-at.ensures.start c.loop-at.invariant.0
    c.loop-at.invariant.2
    (λ inside is. let past = c.loop-at-test.false in omega (arith, inside, past))
