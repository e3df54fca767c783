use Rattle.command_words.proofs.ToldTexts.{few_shown}
use Rattle.command_words.proofs.telling.shown_pieces.Goals as goal

pub returns-then-text-le-SHOWN : goal.returns-then-text-le-SHOWN
returns-then-text-le-SHOWN c = few_shown c.args.text.now c.args.front.now c.if-text-le-SHOWN.true c.requires
