use Rattle.std.proofs.Common.{◌∙◌, map, ap, sym, subst}
use Rattle.std.specs.Prelude.{All}
use Rattle.std.specs.List.{list_any}
use Rattle.std.specs.Result.{is_ok, is_err}
use Rattle.std.proofs.lemmas.Result.{err_from_is_err_and}
use Rattle.std.proofs.lemmas.List.Elements.{All-map}
use Rattle.outside.specs.Gears.{IsUnused}
use Rattle.outside.specs.Worlds.{WorldState}
use Rattle.serving.specs.ServiceEnds.{has_failed}
use Rattle.serving.specs.Services.{not_started}
use Rattle.serving.proofs.UsedUp.{any_counted, ends_of_doors, used_up}
use Rattle.serving.proofs.ServiceLemmas.{unused_few, started_few, taken_back, taken_back_full}
use Rattle.serving.proofs.service.serve_front_at.Goals as goal

pub returns-in_err-gears-clause-served : goal.returns-in_err-gears-clause-served
returns-in_err-gears-clause-served g c =
    let p = err_from_is_err_and c.from_residual.result c.from_residual.ensures.1 in
    rw (p.1, p.2) (not_started _ c.in_err-gears.ensures.state c.in_err-gears.ensures.gears)

pub returns-in-Err-clause-served : goal.returns-in-Err-clause-served
returns-in-Err-clause-served g c =
    let st = g.W.Gear.Counted.state in
    let gears = c.serve_gears-gears.result.0.items in
    let same = sym (c.serve_gears-gears.ensures.unserved (ap is_err c.in-Err.is)) in
    let unused = All-map IsUnused st gears (subst (All (λ gear. IsUnused (st gear))) same c.in_ok-gears.ensures.gears.unused) in
    taken_back g.C.M.Machine.law (g.F.Front.rules c.args.front.now) (g.F.Front.session c.args.front.now) st c.args.address.now c.args.workers c.args.quota _
    (g.W.World.state c.args.world.now) _ _ gears
    c.in_ok-gears.ensures.state c.stop_gears.ensures.state (c.serve_gears-gears.ensures.many ∙ c.in_ok-gears.ensures.gears.many)
    c.serve_gears-gears.ensures.one c.serve_gears-gears.ensures.out (unused_few c.args.quota (map st gears) unused) unused

pub returns-then-failed-clause-served : goal.returns-then-failed-clause-served
returns-then-failed-clause-served g c =
    let st = g.W.Gear.Counted.state in
    let gears = c.serve_gears-gears.result.0.items in
    let done = c.serve_gears-gears.ensures.done (ap is_ok c.in-Ok.is) in
    taken_back g.C.M.Machine.law (g.F.Front.rules c.args.front.now) (g.F.Front.session c.args.front.now) st c.args.address.now c.args.workers c.args.quota _
    (g.W.World.state c.args.world.now) _ _ gears
    c.in_ok-gears.ensures.state c.stop_gears.ensures.state (c.serve_gears-gears.ensures.many ∙ c.in_ok-gears.ensures.gears.many)
    c.serve_gears-gears.ensures.one c.serve_gears-gears.ensures.out
    (started_few st c.args.workers c.args.quota c.in_ok-gears.gears.items gears c.in_ok-gears.ensures.gears done) (
      any_counted st gears ∙ ap (list_any (λ gear. has_failed (st gear))) (sym c.as_slice.ensures.value) ∙ sym c.any_failed-failed.ensures ∙ c.if-failed.true,
      ends_of_doors (map st c.in_ok-gears.gears.items) (map st gears) (All-map IsUnused st c.in_ok-gears.gears.items c.in_ok-gears.ensures.gears.unused) done,
    )

pub returns-else-failed-clause-served : goal.returns-else-failed-clause-served
returns-else-failed-clause-served g c =
    let st = g.W.Gear.Counted.state in
    let gears = c.serve_gears-gears.result.0.items in
    let done = c.serve_gears-gears.ensures.done (ap is_ok c.in-Ok.is) in
    taken_back g.C.M.Machine.law (g.F.Front.rules c.args.front.now) (g.F.Front.session c.args.front.now) st c.args.address.now c.args.workers c.args.quota _
    (g.W.World.state c.args.world.now) _ _ gears
    c.in_ok-gears.ensures.state c.stop_gears.ensures.state (c.serve_gears-gears.ensures.many ∙ c.in_ok-gears.ensures.gears.many)
    c.serve_gears-gears.ensures.one c.serve_gears-gears.ensures.out
    (started_few st c.args.workers c.args.quota c.in_ok-gears.gears.items gears c.in_ok-gears.ensures.gears done)
    (used_up (map st c.in_ok-gears.gears.items) (map st gears) (All-map IsUnused st c.in_ok-gears.gears.items c.in_ok-gears.ensures.gears.unused) done
    (any_counted st gears ∙ ap (list_any (λ gear. has_failed (st gear))) (sym c.as_slice.ensures.value) ∙ sym c.any_failed-failed.ensures ∙ c.if-failed.false))

pub returns-in_err-gears-clause-quota : goal.returns-in_err-gears-clause-quota
returns-in_err-gears-clause-quota g c =
    let p = err_from_is_err_and c.from_residual.result c.from_residual.ensures.1 in
    rw p.1 (λ _. tt)

pub returns-else-failed-clause-quota : goal.returns-else-failed-clause-quota
returns-else-failed-clause-quota g c = λ gives.
    let st = g.W.Gear.Counted.state in
    let gears = c.serve_gears-gears.result.0.items in
    let done = c.serve_gears-gears.ensures.done (ap is_ok c.in-Ok.is) in
    taken_back_full st c.args.workers c.args.quota c.in_ok-gears.gears.items gears _ c.in_ok-gears.ensures.gears (c.in_ok-gears.ensures.quota gives) done
    (used_up (map st c.in_ok-gears.gears.items) (map st gears) (All-map IsUnused st c.in_ok-gears.gears.items c.in_ok-gears.ensures.gears.unused) done
    (any_counted st gears ∙ ap (list_any (λ gear. has_failed (st gear))) (sym c.as_slice.ensures.value) ∙ sym c.any_failed-failed.ensures ∙ c.if-failed.false))
    (ap (λ (s : WorldState). s.gears) c.stop_gears.ensures.state)
