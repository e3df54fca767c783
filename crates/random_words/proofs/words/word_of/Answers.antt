use Rattle.std.proofs.Common.{◌∙◌, ℕ, sym, ap}
use Rattle.rand_chacha.specs.ChaCha.{ChaCha}
use Rattle.random_words.specs.Draws.{next_of}
use Rattle.random_words.proofs.Places.{word_there}
use Rattle.random_words.proofs.words.word_of.Goals as goal

pub returns : goal.returns
returns c =
    ap (λ (p : ℕ × ChaCha). p.0) c.next_u64_via_u32.ensures
    ∙ ap (λ g. (next_of g).0) c.generator.ensures
    ∙ sym (word_there 48 c.args.place c.args.stream.now c.requires)
