use Rattle.std.proofs.Common.{◌≡◌, ◌∙◌, ℕ, List, replicate, ap, sym, subst}
use Rattle.histories.specs.History.{Legal}
use Rattle.histories.specs.Steps.{Enters}
use Rattle.test_adding.specs.Adding.{adding}
use Rattle.test_adding.specs.Amounts.{AddingEntry}
use Rattle.test_adding.specs.declared.adding.Call.TheVariants.{Total}
use Rattle.test_adding.specs.declared.adding.Reply.TheVariants.{Sum}
use Rattle.test_adding.proofs.serve.told_sum.Goals as goal

-- by equal rules and under an equal number the same is entered
enters_alike : (rules rules' number number' sum : ℕ) (h k : List AddingEntry) (seen : List AddingEntry → Type 0) → rules ≡ rules' → number ≡ number'
    → ((l : List AddingEntry) → seen l → l ≡ k)
    → Enters adding rules number h 0 (replicate 48 0) Total (Sum sum) seen → Enters adding rules' number' h 0 (replicate 48 0) Total (Sum sum) (λ l. l ≡ k)
enters_alike rules rules' number number' sum h k seen same_rules same_number is e =
    subst (λ r. Enters adding r number' h 0 (replicate 48 0) Total (Sum sum) (λ l. l ≡ k)) same_rules
    (subst (λ n. Enters adding rules n h 0 (replicate 48 0) Total (Sum sum) (λ l. l ≡ k)) same_number
    (record { others = e.others; not_mine = e.not_mine; reply_is = e.reply_is; seen_now = is _ e.seen_now }))

pub returns-clause-entered : goal.returns-clause-entered
returns-clause-entered g c =
    let pass = c.args.pass in
    let station = c.new-station.ensures.station in
    let rules : c.new-station.result.home.rules ≡ c.args.shared.now.rules = ap (λ s. s.home.rules) station in
    let legal : Legal adding c.new-station.result.home.rules pass.seen = subst (λ r. Legal adding r pass.seen) (sym rules) c.new-station.ensures.legal in
    let entered = c.total_at-sum.ensures.entered pass.seen (sym (ap (λ s. s.seen) station), legal) in
    enters_alike _ _ _ _ c.total_at-sum.result pass.seen c.leave.result.seen _ rules (ap (λ s. s.number) station)
    (λ l seen. seen.0 ∙ sym c.leave.ensures.seen) entered
