use Rattle.std.proofs.Common.{◌≡◌}
use Rattle.clap.specs.Simple.{app_of}
use Rattle.command_words.specs.Positionals.{taking}
use Rattle.command_words.proofs.positionals.taking.Given as goal

abbrev pub invariant-loop-place : goal.invariant-loop-place
invariant-loop-place l = app_of l.command ≡ taking l.place
