use Rattle.std.proofs.Common.{◌≡◌, ◌∙◌, List, ap, sym, subst}
use Rattle.histories.specs.History.{Legal}
use Rattle.test_adding.specs.Adding.{adding}
use Rattle.test_adding.specs.Amounts.{AddingEntry, GrewBy}
use Rattle.test_adding.proofs.serve.work.Goals as goal

pub returns-clause-made : goal.returns-clause-made
returns-clause-made g c =
    let pass = c.args.pass in
    let times = c.args.times in
    let came = c.add_often-made.result in
    let station = c.new-station.ensures.station in
    let rules : c.new-station.result.home.rules ≡ c.args.shared.now.rules = ap (λ s. s.home.rules) station in
    let legal : Legal adding c.new-station.result.home.rules pass.seen = subst (λ r. Legal adding r pass.seen) (sym rules) c.new-station.ensures.legal in
    let made = c.add_often-made.ensures.made pass.seen (sym (ap (λ s. s.seen) station), legal) in
    let after : made.0 ≡ c.leave.result.seen = made.1.0 ∙ sym c.leave.ensures.seen in
    let grew : GrewBy pass.number 1 times came pass.seen made.0
    = subst (λ n. GrewBy n 1 times came pass.seen made.0) (ap (λ s. s.number) station) made.2 in
    subst (λ (k : List AddingEntry). GrewBy pass.number 1 times came pass.seen k) after grew
