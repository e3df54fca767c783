use Rattle.std.proofs.Common.{◌≡◌, ◌++◌, drop, map, string_bytes}
use Rattle.clap.specs.Walk.{texts}
use Rattle.command_words.specs.Positionals.{after_dashes}
use Rattle.command_words.proofs.positionals.after_dashes.Given as goal

abbrev pub invariant-loop-word : goal.invariant-loop-word
invariant-loop-word l = texts l.given.items ++ map string_bytes (drop l.word-index l.words) ≡ after_dashes (map string_bytes l.words)
