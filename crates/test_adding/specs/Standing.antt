-- A core that adds stands for a history, step by step.
use Rattle.std.proofs.Common.{◌≡◌, ◌∙◌, ℕ, ◌+◌, ◌<◌, ◌≤◌, ◌^◌, max, List, [], ◌∷◌, ◌++◌, refl, ap, sym, arith}
use Rattle.std.proofs.lemmas.List.{append-nil}
use Rattle.histories.specs.declared.entry.Entry.{Entry}
use Rattle.histories.specs.History.{Renumbered, last_moment}
use Rattle.histories.specs.Steps.{Answers, Lapses}
use Rattle.histories.specs.ByNotes.{stands-nil, answers-by_notes, lapses-by_notes}
use Rattle.histories.specs.ByNotes.{stands-renumbered as notes-renumbered}
use Rattle.test_adding.specs.declared.adding.Call.{Call}
use Rattle.test_adding.specs.declared.adding.Call.TheVariants.{Add, Total, Lapse}
use Rattle.test_adding.specs.declared.adding.Reply.{Reply}
use Rattle.test_adding.specs.declared.adding.Reply.TheVariants.{Sum}
use Rattle.test_adding.specs.Adding.{capped, added, add_answer, AddFits, adding, StandsFor}

-- With no amounts it stands for the empty history.
pub stands-new : (start : ℕ) (amounts : List ℕ) → start < 2 ^ 64 → amounts ≡ [] → StandsFor start amounts start 0 []
stands-new start amounts fits empty =
    let all : start ≡ capped (start + added amounts) = rw empty (grind (arith, fits)) in
    record { by_notes = rw empty (stands-nil add_answer AddFits Lapse start); total_is = all }

pub stands-renumbered : (start : ℕ) (amounts : List ℕ) (total latest : ℕ) (h k : List (Entry Call Reply ℕ))
    → Renumbered h k → StandsFor start amounts total latest h → StandsFor start amounts total latest k
stands-renumbered start amounts total latest h k same s = record {
  by_notes = notes-renumbered add_answer AddFits Lapse start amounts latest h k same s.by_notes;
  total_is = s.total_is;
}

added-next : (ns : List ℕ) (n : ℕ) → added (ns ++ n ∷ []) ≡ added ns + n
added-next [] n = omega arith
added-next (m ∷ ns) n = let rest = added-next ns n in omega (arith, rest)

-- An amount more makes the sum that the machine answers.
pub answers-added : (start : ℕ) (amounts : List ℕ) (total latest : ℕ) (h : List (Entry Call Reply ℕ)) (moment : ℕ) (draw : List ℕ)
    (amount : ℕ) (amounts' : List ℕ) (total' latest' : ℕ)
    → StandsFor start amounts total latest h → moment ≤ last_moment → latest' ≡ max latest moment
    → amounts' ≡ amounts ++ amount ∷ [] → total' ≡ capped (total + amount)
    → Answers adding start h moment draw (Add amount) (Sum total') (StandsFor start amounts' total' latest')
answers-added start amounts total latest h moment draw amount amounts' total' latest' s time top grown sum =
    let was : total ≡ capped (start + added amounts) = s.total_is in
    let is : total' ≡ capped (start + added amounts + amount) = grind (arith, was, sum) in
    let by = answers-by_notes add_answer AddFits Lapse start amounts latest h moment draw (Add amount) (Sum total') amounts' latest'
    s.by_notes tt time top (ap Sum is) grown in
    let more : added amounts' ≡ added amounts + amount = ap added grown ∙ added-next amounts amount in
    let all : total' ≡ capped (start + added amounts') = grind (arith, is, more) in
    record { reply_is = by.reply_is; stands_now = λ k. record { by_notes = by.stands_now k; total_is = all } }

pub lapses-added : (start : ℕ) (amounts : List ℕ) (total latest : ℕ) (h : List (Entry Call Reply ℕ)) (moment : ℕ) (draw : List ℕ)
    (amounts' : List ℕ) (total' latest' : ℕ)
    → StandsFor start amounts total latest h → moment ≤ last_moment → latest' ≡ max latest moment
    → amounts' ≡ amounts → total' ≡ total
    → Lapses adding start h moment draw (StandsFor start amounts' total' latest')
lapses-added start amounts total latest h moment draw amounts' total' latest' s time top same stays k = rw (same, stays) (record {
  by_notes = lapses-by_notes add_answer AddFits Lapse start amounts latest h moment draw latest' s.by_notes tt time top refl k;
  total_is = s.total_is;
})

-- The sum that is kept is the one that the machine answers.
pub answers-total : (start : ℕ) (amounts : List ℕ) (total latest : ℕ) (h : List (Entry Call Reply ℕ)) (moment : ℕ) (draw : List ℕ) (latest' : ℕ)
    → StandsFor start amounts total latest h → moment ≤ last_moment → latest' ≡ max latest moment
    → Answers adding start h moment draw Total (Sum total) (StandsFor start amounts total latest')
answers-total start amounts total latest h moment draw latest' s time top =
    let by = answers-by_notes add_answer AddFits Lapse start amounts latest h moment draw Total (Sum total) amounts latest'
    s.by_notes tt time top (ap Sum s.total_is) (sym (append-nil amounts)) in
    record { reply_is = by.reply_is; stands_now = λ k. record { by_notes = by.stands_now k; total_is = s.total_is } }
