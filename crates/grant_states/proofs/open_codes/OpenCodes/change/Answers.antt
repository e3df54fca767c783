use Rattle.std.proofs.Common.{◌∙◌, Option, sym, subst, inl, inr}
use Rattle.std.specs.Prelude.{IfSome}
use Rattle.gnap_model.specs.Common.{Text}
use Rattle.grant_states.specs.OpenCodes.{IsCodeIn, IsCodeListed}
use Rattle.grant_states.proofs.CodeLists.{same_codes}
use Rattle.grant_states.proofs.open_codes.OpenCodes.change.Goals as goal

pub returns-then-eq-clause-own : goal.returns-then-eq-clause-own
returns-then-eq-clause-own c = λ n h. subst (IsCodeIn n) (same_codes c.args.before.now c.args.after.now (sym c.eq.ensures ∙ c.if-eq.true)) (c.requires.own n h)

pub returns-then-eq-clause-listed : goal.returns-then-eq-clause-listed
returns-then-eq-clause-listed c = λ all. (
  all,
  subst (λ (o : Option Text). IfSome o (IsCodeListed c.args.self.now c.args.number)) (same_codes c.args.before.now c.args.after.now (sym c.eq.ensures ∙ c.if-eq.true))
      (c.requires.was all),
)

pub returns-clause-kept : goal.returns-clause-kept
returns-clause-kept c = λ n other h never. c.put.ensures.kept n other (c.take.ensures.kept n other h never)

pub returns-clause-only : goal.returns-clause-only
returns-clause-only c = λ n other h never. elim (c.put.ensures.only n other h) [ inl m ↦ c.take.ensures.only n other m | inr e ↦ absurd (never e.0) ]

pub returns-clause-own : goal.returns-clause-own
returns-clause-own c = λ n h. elim (c.put.ensures.only n c.args.number h) [
  | inl m ↦ absurd (c.take.ensures.gone n m (c.requires.own n (c.take.ensures.only n c.args.number m)))
  | inr e ↦ e.1
]

pub returns-clause-listed : goal.returns-clause-listed
returns-clause-listed c = λ all. let l = c.put.ensures.listed all in (sym c.take.ensures.complete ∙ l.0, l.1)
