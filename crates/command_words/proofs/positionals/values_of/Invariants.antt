use Rattle.std.proofs.Common.{◌≡◌, List, length, map, take, string_bytes}
use Rattle.clap.specs.Matches.{found_of}
use Rattle.clap.specs.Walk.{Text}
use Rattle.command_words.specs.Positionals.{HasValues}
use Rattle.command_words.proofs.positionals.values_of.Given as goal

-- the values of the arguments before this place
abbrev pub invariant-loop-place : goal.invariant-loop-place
invariant-loop-place l = (words : List Text) → length words ≡ l.count → HasValues (found_of l.matches) words
    → map string_bytes l.values.items ≡ take l.place words
