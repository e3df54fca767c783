-- What was printed, by what its text is.
use Rattle.std.proofs.Common.{◌≡◌, ℕ, List, sym, subst, ◌⊎◌, inl, inr}
use Rattle.outside.specs.Outside.{Told}
use Rattle.command_inputs.specs.declared.ended.Ended.{Ended}
use Rattle.command_inputs.specs.declared.ended.Ended.TheVariants.{Done, NoSetup, Failed, WriteFault, Memory, Refused, TooLong}
use Rattle.command_inputs.specs.Printing.{EndsPrinting, PrintsAnswer}

module _ (T R U V : List ℕ → Type 0) (text : (line : List ℕ) → T line → U line) (refusal : (line : List ℕ) → R line → V line) where
  either : (line : List ℕ) → T line ⊎ R line → U line ⊎ V line
  either line (inl is) = inl (text line is)
  either line (inr is) = inr (refusal line is)

  ends_weaker : (ended : Ended) (sent : List ℕ) → EndsPrinting T R ended sent → EndsPrinting U V ended sent
  ends_weaker Done sent ends = text sent ends
  ends_weaker Refused sent ends = refusal sent ends
  ends_weaker WriteFault sent ends = (ends.0, either ends.0 ends.1, ends.2)
  ends_weaker (NoSetup why) sent ends = ends
  ends_weaker Failed sent ends = ends
  ends_weaker Memory sent ends = ends
  ends_weaker TooLong sent ends = ends

  pub prints_weaker : (before after : Told) (ended : Ended) → PrintsAnswer T R before after ended → PrintsAnswer U V before after ended
  prints_weaker before after ended prints = record { sent = prints.sent; told = prints.told; ends = ends_weaker ended prints.sent prints.ends }

-- a line was printed that the relation has
pub prints_such : (P : List ℕ → Type 0) (line : List ℕ) → P line → (before after : Told) (ended : Ended)
    → PrintsAnswer (λ text. text ≡ line) (λ text. ⊥) before after ended → PrintsAnswer P (λ text. ⊥) before after ended
prints_such P line is before after ended prints =
    prints_weaker (λ text. text ≡ line) (λ text. ⊥) P (λ text. ⊥) (λ text same. subst P (sym same) is) (λ text no. no) before after ended prints
