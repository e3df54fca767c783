-- What is printed of a load.
use Rattle.std.specs.Prelude.{◌≡◌, ◌⊎◌, ℕ, List, [], ◌∷◌, ◌++◌, codes}
use Rattle.std.specs.Fmt.{decimal}
use Rattle.outside.specs.Outside.{Told}
use Rattle.desk_load.specs.declared.tally.Tally.{Tally}
use Rattle.desk_load.specs.Loads.{IsLoad}
use Rattle.command_inputs.specs.declared.ended.Ended.{Ended}
use Rattle.command_inputs.specs.declared.ended.Ended.TheVariants.{Done, WriteFault, Memory}
use Rattle.command_inputs.specs.Printing.{PrintsAnswer}

-- how many grants were put through, and how many replies of each kind there were
abbrev pub load_line : ℕ → Tally → List ℕ
load_line grants tally =
    codes "grants " ++ decimal grants ++ codes " active " ++ decimal tally.active ++ codes " inactive " ++ decimal tally.inactive
    ++ codes " cancelled " ++ decimal tally.done ++ 10 ∷ []

-- the line of a load that so many workers put through, each with its words under START
abbrev pub IsLoadLine : ℕ → ℕ → ℕ → List ℕ → Type 0
IsLoadLine grants start workers line = (tally : Tally) × IsLoad grants start workers tally × (line ≡ load_line grants tally)

-- The line was printed, as far as that went: all of it, or a beginning where a write failed, or nothing for want of memory.
abbrev pub PrintsLoad : ℕ → ℕ → ℕ → Told → Told → Ended → Type 0
PrintsLoad grants start workers before after ended =
    PrintsAnswer (IsLoadLine grants start workers) (λ line. ⊥) before after ended × ((ended ≡ Done) ⊎ (ended ≡ WriteFault) ⊎ (ended ≡ Memory))
