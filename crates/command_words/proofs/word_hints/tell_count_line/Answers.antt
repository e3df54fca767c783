use Rattle.command_words.proofs.ToldTexts.{told_as}
use Rattle.command_words.proofs.HintTexts.{count_pieces}
use Rattle.command_words.proofs.word_hints.tell_count_line.Goals as goal

pub returns : goal.returns
returns g c =
    told_as _ _ _ _ _ _
    (count_pieces _ _ _ _ _ _ _ _ _ _ _ _ c.as_bytes.ensures.value c.as_bytes-2.ensures.value c.as_bytes-3.ensures.value c.as_bytes-4.ensures.value
    c.as_bytes-5.ensures.value c.as_bytes-6.ensures.value) c.tell_with_usage.ensures
