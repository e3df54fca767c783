use Rattle.std.proofs.Common.{◌≡◌, ℕ, ◌<◌, length, get_or}
use Rattle.command_words.specs.Telling.{shown_byte}
use Rattle.command_words.proofs.telling.shown_front.Given as goal

abbrev pub invariant-loop-place : goal.invariant-loop-place
invariant-loop-place l = record {
  long : length l.shown ≡ 64;
  each : (k : ℕ) → k < l.place → k < length l.text → get_or l.shown k 0 ≡ shown_byte (get_or l.text k 0);
}
