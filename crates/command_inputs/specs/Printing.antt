-- One text, printed.
use Rattle.std.specs.Prelude.{◌≡◌, ◌⊎◌, ℕ, List, []}
use Rattle.bytes_and_lists.specs.Prefixes.{IsPrefix}
use Rattle.outside.specs.Outside.{Told, Writes}
use Rattle.command_inputs.specs.declared.ended.Ended.{Ended}
use Rattle.command_inputs.specs.declared.ended.Ended.TheVariants.{Done, NoSetup, Failed, WriteFault, Memory, Refused, TooLong}

-- How it ended, and what was printed: the text that answers, the line that refuses, a beginning of one of them, or nothing.
abbrev pub EndsPrinting : (List ℕ → Type 0) → (List ℕ → Type 0) → Ended → List ℕ → Type 0
EndsPrinting IsText IsRefusal Done sent = IsText sent
EndsPrinting IsText IsRefusal Refused sent = IsRefusal sent
EndsPrinting IsText IsRefusal WriteFault sent = (text : List ℕ) × (IsText text ⊎ IsRefusal text) × IsPrefix sent text
EndsPrinting IsText IsRefusal (NoSetup why) sent = ⊥
EndsPrinting IsText IsRefusal Failed sent = sent ≡ []
EndsPrinting IsText IsRefusal Memory sent = sent ≡ []
EndsPrinting IsText IsRefusal TooLong sent = sent ≡ []

-- The answer to a file was printed, as far as that went.
pub record PrintsAnswer (IsText IsRefusal : List ℕ → Type 0) (before after : Told) (ended : Ended) : Type 0 where
  pub sent : List ℕ
  pub told : Writes sent before after
  pub ends : EndsPrinting IsText IsRefusal ended sent
