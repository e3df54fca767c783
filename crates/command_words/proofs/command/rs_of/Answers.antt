use Rattle.command_words.specs.Commands.{rs_words}
use Rattle.command_words.proofs.WordCounts.{of_four_or_five}
use Rattle.command_words.proofs.command.rs_of.Goals as goal

pub returns-in-Some-clause-read : goal.returns-in-Some-clause-read
returns-in-Some-clause-read c = of_four_or_five rs_words c.resources.result _ _ _ _ _ _ c.in-Some.ensures.some c.resources.ensures.read
