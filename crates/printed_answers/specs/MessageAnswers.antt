-- What is printed for a file with one message.
use Rattle.std.specs.Prelude.{◌≡◌, ◌⊎◌, ℕ, List, [], ◌∷◌, ◌++◌, Result, Ok, Err, codes}
use Rattle.outside.specs.Outside.{Told}
use Rattle.signed_files.specs.declared.fault.FileFault.{FileFault}
use Rattle.signed_files.specs.declared.fault.FileFault.TheVariants as file_faults
use Rattle.command_inputs.specs.declared.ended.Ended.{Ended}
use Rattle.command_inputs.specs.declared.ended.Ended.TheVariants.{Failed, WriteFault, Memory, Refused}
use Rattle.command_inputs.specs.Printing.{PrintsAnswer}

-- the line for a fault with this name
abbrev pub refused_line : List ℕ → List ℕ
refused_line name = codes "refused " ++ (name ++ 10 ∷ [])

-- what is printed for a message file: the text that the relation has, or the line of the fault that it has
abbrev pub PrintsFor : (Result (List ℕ) (List ℕ) → Type 0) → Told → Told → Ended → Type 0
PrintsFor answers before after ended =
    PrintsAnswer (λ text. answers (Ok text)) (λ line. (name : List ℕ) × answers (Err name) × (line ≡ refused_line name)) before after ended

-- the line of a fault was printed, where it has one
abbrev pub PrintsFault : FileFault → Told → Told → Ended → Type 0
PrintsFault (file_faults.Refused name) before after ended =
    PrintsAnswer (λ text. ⊥) (λ line. line ≡ refused_line name.now) before after ended × ((ended ≡ Refused) ⊎ (ended ≡ WriteFault) ⊎ (ended ≡ Memory))
PrintsFault file_faults.ReadFault before after ended = (after ≡ before) × (ended ≡ Failed)
PrintsFault file_faults.OutOfMemory before after ended = (after ≡ before) × (ended ≡ Memory)
