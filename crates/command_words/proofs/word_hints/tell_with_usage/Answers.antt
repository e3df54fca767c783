use Rattle.command_words.specs.Hints.{usage_for}
use Rattle.command_words.proofs.word_hints.tell_with_usage.Goals as goal

pub returns : goal.returns
unfolding usage_for
returns g c = c.tell_with_lines.ensures
