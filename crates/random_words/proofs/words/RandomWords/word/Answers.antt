use Rattle.std.proofs.Common.{◌∙◌, sym, ap, slice_index}
use Rattle.std.proofs.lemmas.List.{get_or-replicate}
use Rattle.random_words.specs.Words.{words_of}
use Rattle.random_words.proofs.words.RandomWords.word.Goals as goal

pub returns-in-Zeros : goal.returns-in-Zeros
returns-in-Zeros c =
    sym (get_or-replicate 48 c.args.place 0 0 c.requires) ∙ ap (λ ws. slice_index ws c.args.place) (ap words_of (sym c.in-Zeros.is) ∙ c.self.view_is)
