use Rattle.std.proofs.Common.{◌∙◌, sym}
use Rattle.command_words.proofs.Numerals.{past_range}
use Rattle.command_words.proofs.numbers.number_within.Goals as goal

pub returns-in_default-clause-value : goal.returns-in_default-clause-value
returns-in_default-clause-value c =
    past_range c.args.least c.args.most c.args.word.now (sym c.is_number.ensures ∙ c.if-not-is_number.false) c.ranges.most.fits c.in_default.ensures.value.0
