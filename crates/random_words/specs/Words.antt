-- The words of an entry, made or not.
use Rattle.std.specs.Prelude.{ℕ, List, replicate}
use Rattle.random_words.specs.declared.words.Source.{Source}
use Rattle.random_words.specs.declared.words.Source.TheVariants.{Zeros, Given, Ahead, Begun}
use Rattle.random_words.specs.Draws.{draw_from}

abbrev pub words_of : Source → List ℕ
words_of Zeros = replicate 48 0
words_of (Given words) = words.value
words_of (Ahead stream) = draw_from stream
words_of (Begun words) = words
