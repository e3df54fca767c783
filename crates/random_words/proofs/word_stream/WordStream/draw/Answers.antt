use Rattle.std.proofs.Common.{◌∙◌, ap}
use Rattle.random_words.specs.Draws.{after_words}
use Rattle.random_words.proofs.Places.{next_draw}
use Rattle.random_words.proofs.word_stream.WordStream.draw.Goals as goal

pub returns-clause-next : goal.returns-clause-next
returns-clause-next c = next_draw _ _ c.self.inside.block c.self.invariant ∙ ap (after_words 48) c.self.view_is
