-- The machine that adds, and what its core keeps.
use Rattle.std.specs.Prelude.{◌≡◌, ℕ, ◌+◌, ◌-◌, ◌^◌, min, List, [], ◌∷◌, length}
use Rattle.histories.specs.declared.entry.Entry.{Entry}
use Rattle.histories.specs.History.{Answer, Law, by_notes}
use Rattle.histories.specs.ByNotes.{StandsByNotes}
use Rattle.test_adding.specs.declared.adding.Call.{Call}
use Rattle.test_adding.specs.declared.adding.Call.TheVariants.{Add, Total, Lapse}
use Rattle.test_adding.specs.declared.adding.Reply.{Reply}
use Rattle.test_adding.specs.declared.adding.Reply.TheVariants.{Sum, Lapsed}

-- a sum stands still at the end of its type
abbrev pub capped : ℕ → ℕ
capped n = min n (2 ^ 64 - 1)

abbrev pub added : List ℕ → ℕ
added [] = 0
added (n ∷ ns) = n + added ns

-- The reply is the sum of all amounts so far.
abbrev pub add_answer : ℕ → List ℕ → ℕ → List ℕ → Call → Answer Reply ℕ
add_answer start notes now draw (Add amount) = record { reply = Sum (capped (start + added notes + amount)); notes = amount ∷ [] }
add_answer start notes now draw Total = record { reply = Sum (capped (start + added notes)); notes = [] }
add_answer start notes now draw Lapse = record { reply = Lapsed; notes = [] }

-- each call fits
abbrev pub AddFits : Call → Type 0
AddFits call = Unit {0}

abbrev pub adding : Law ℕ Call Reply ℕ
adding = by_notes add_answer AddFits Lapse

-- the calls for which a step takes no memory
abbrev pub IsFrugal : Call → Type 0
IsFrugal call = call ≡ Total

-- the amounts, the sum and the greatest moment are those of the history
pub record StandsFor (start : ℕ) (amounts : List ℕ) (total latest : ℕ) (h : List (Entry Call Reply ℕ)) : Type 0 where
  pub by_notes : StandsByNotes add_answer AddFits Lapse start amounts latest h
  pub total_is : total ≡ capped (start + added amounts)

abbrev pub IsOneEntry : List (Entry Call Reply ℕ) → Type 0
IsOneEntry own = length own ≡ 1
