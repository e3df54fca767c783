use Rattle.std.proofs.Common.{Bool, ◌+◌, ◌||◌, ◌∙◌, drop, ap, sym}
use Rattle.std.specs.List.{list_any}
use Rattle.std.proofs.lemmas.List.{at_drop_more, at_drop_all}
use Rattle.serving.specs.ServiceEnds.{has_failed}
use Rattle.serving.proofs.service.any_failed.Goals as goal

pub loop-gear-preserved : goal.loop-gear-preserved
loop-gear-preserved g c =
    let test : g.row.G.Denot → Bool = λ gear. has_failed (g.G.Counted.state gear) in
    let i = c.loop-gear.gear-index in
    let later = list_any test (drop (i + 1) c.args.gears.now) in
    ap (λ failed. failed || later) (sym c.if-has_failed.false ∙ c.has_failed.ensures)
    ∙ ap (λ gear. test gear || later) c.gear-item.is
    ∙ sym (at_drop_more (list_any test) c.args.gears.now i c.gear-item.result c.loop-gear-test.true)
    ∙ c.loop-gear.invariant

pub returns : goal.returns
returns g c =
    let test : g.row.G.Denot → Bool = λ gear. has_failed (g.G.Counted.state gear) in
    sym (at_drop_all (list_any test) c.args.gears.now c.loop-gear.gear-index c.loop-gear-test.false) ∙ c.loop-gear.invariant
