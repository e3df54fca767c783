use Rattle.command_words.specs.Commands.{sign_words}
use Rattle.command_words.proofs.WordCounts.{of_four_or_five}
use Rattle.command_words.proofs.command.sign_of.Goals as goal

pub returns-in-Some-clause-read : goal.returns-in-Some-clause-read
returns-in-Some-clause-read c = of_four_or_five sign_words c.signature.result _ _ _ _ _ _ c.in-Some.ensures.some c.signature.ensures.read
