use Rattle.std.proofs.Common.{◌≡◌, length, take}
use Rattle.random_words.specs.Draws.{draw_from, after_words}
use Rattle.random_words.proofs.words.Begun.of.Given as goal

abbrev pub invariant-loop-i : goal.invariant-loop-i
invariant-loop-i l =
    record {
      many : length l.words ≡ 16;
      after : l.generator ≡ after_words l.i l.stream;
      words : take l.i l.words ≡ take l.i (draw_from l.stream);
    }
