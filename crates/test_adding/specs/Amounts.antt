-- What a worker makes that adds one amount, again and again.
use Rattle.std.specs.Prelude.{◌≡◌, ◌⊎◌, ℕ, ◌+◌, List, [], ◌∷◌, ◌++◌, length}
use Rattle.histories.specs.declared.entry.Entry.{Entry}
use Rattle.histories.specs.Whole.{own_of}
use Rattle.test_adding.specs.declared.adding.Call.{Call}
use Rattle.test_adding.specs.declared.adding.Call.TheVariants.{Add, Total, Lapse}
use Rattle.test_adding.specs.declared.adding.Reply.{Reply}
use Rattle.test_adding.specs.declared.adding.Reply.TheVariants.{Sum, Lapsed}
use Rattle.test_adding.specs.declared.calls.Made.{Made}

-- an entry of the adding machine
abbrev pub AddingEntry : Type 0
AddingEntry = Entry Call Reply ℕ

-- each entry's call adds the amount, or is a lapse, where memory ran out
abbrev pub EachAdds : ℕ → List AddingEntry → Type 0
EachAdds amount [] = Unit {0}
EachAdds amount (e ∷ h) = ((e.call ≡ Add amount) ⊎ (e.call ≡ Lapse)) × EachAdds amount h

-- one for a call that adds
abbrev pub one_if_adds : Call → ℕ
one_if_adds (Add amount) = 1
one_if_adds Total = 0
one_if_adds Lapse = 0

-- how many of the entries add
abbrev pub adds_in : List AddingEntry → ℕ
adds_in [] = 0
adds_in (e ∷ h) = one_if_adds e.call + adds_in h

-- the sum that a reply tells, or the one from before
abbrev pub sum_or : ℕ → Reply → ℕ
sum_or before (Sum total) = total
sum_or before Lapsed = before

-- the last sum that the entries' replies tell, or the one from before
abbrev pub last_sum : ℕ → List AddingEntry → ℕ
last_sum before [] = before
last_sum before (e ∷ h) = last_sum (sum_or before e.reply) h

-- So many entries, each of which adds the amount or is a lapse, and so many of them add.
pub record IsWork (amount times answered : ℕ) (own : List AddingEntry) : Type 0 where
  pub count : length own ≡ times
  pub each : EachAdds amount own
  pub adds : adds_in own ≡ answered

-- The entries of a number grew by this work, and `made` has the last sum that their replies tell, or 0.
pub record GrewBy (number amount times : ℕ) (made : Made) (before after : List AddingEntry) : Type 0 where
  pub own : List AddingEntry
  pub own_is : own_of number after ≡ own_of number before ++ own
  pub work : IsWork amount times made.answered own
  pub last : made.last ≡ last_sum 0 own
