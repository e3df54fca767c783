use Rattle.std.proofs.Common.{rules, ◌≡◌, ◌∙◌, ℕ, List, ap, map, length, sym, subst}
use Rattle.std.proofs.lemmas.List.{length-map}
use Rattle.shared_server.specs.Passes.{AreAll}
use Rattle.test_adding.specs.Ones.{EachServed}
use Rattle.test_adding.proofs.Summing.{are_sums, total_answered, total_most}
use Rattle.test_adding.proofs.serve.sum_of_workers.Goals as goal

pub returns-clause-history : goal.returns-clause-history
returns-clause-history g c =
    let shared = c.in_ok-shared.shared in
    let served = c.in_ok-served.served.items in
    let passes = c.in_ok-passes.passes.items in
    let answered = c.in_ok-answered.answered.items in
    let back : passes ≡ map (λ s. s.pass) served = search rules in
    let counted : answered ≡ map (λ s. s.made.answered) served = search rules in
    let all : AreAll shared passes = search rules in
    let made : EachServed c.args.times (map (λ s. s.pass) served) (map (λ s. s.made.answered) served) = search rules in
    let count : shared.count ≡ c.args.workers = search rules in
    let start : shared.rules ≡ 0 = search rules in
    let long : length passes ≡ c.args.workers = all.count ∙ count in
    let counts : length answered ≡ c.args.workers
    = ap length counted ∙ length-map served (λ s. s.made.answered) ∙ sym (length-map served (λ s. s.pass)) ∙ sym (ap length back) ∙ long in
    let with_answered : EachServed c.args.times (map (λ s. s.pass) served) answered
    = subst (λ (l : List ℕ). EachServed c.args.times (map (λ s. s.pass) served) l) (sym counted) made in
    let h = c.close.ensures.history in
    are_sums c.args.workers c.args.times passes answered h.0 long counts (subst (λ l. EachServed c.args.times l answered) (sym back) with_answered) h.2
    c.total.result c.close.result.start c.requires.few c.requires.room (c.close.ensures.rules ∙ start) h.1.by_notes.is_legal (c.total.ensures h.0 h.1)

pub returns-clause-total : goal.returns-clause-total
returns-clause-total g c =
    total_answered c.args.workers c.args.times c.in_ok-answered.answered.items c.total.result (returns-clause-history g c)

pub returns-clause-most : goal.returns-clause-most
returns-clause-most g c =
    total_most c.args.workers c.args.times c.in_ok-answered.answered.items c.total.result (returns-clause-history g c)
