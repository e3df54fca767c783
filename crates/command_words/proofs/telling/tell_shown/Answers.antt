use Rattle.command_words.proofs.ToldTexts.{told_as, two_shown}
use Rattle.command_words.proofs.telling.tell_shown.Goals as goal

pub returns : goal.returns
returns g c = told_as _ _ _ _ _ _ (two_shown _ _ _ c.shown_pieces.ensures) c.tell.ensures
