use Rattle.std.proofs.Common.{◌≡◌, ◌∙◌, ◌+◌, ◌*◌, sym, ap, rules}
use Rattle.rand_chacha.specs.ChaCha.{key_of}
use Rattle.random_words.specs.Draws.{after_words}
use Rattle.random_words.proofs.Places.{after-words_in, at_place}
use Rattle.random_words.proofs.word_stream.WordStream.generator.Goals as goal

pub returns : goal.returns
returns c =
    let s = c.self.inside in
    let made : c.set_word_pos.new.self ≡ at_place (key_of s.seed) s.stream (s.block * 16 + 2 * c.args.words) = search rules in
    made ∙ sym (after-words_in c.args.words _ _ s.block c.self.invariant) ∙ ap (after_words c.args.words) c.self.view_is
