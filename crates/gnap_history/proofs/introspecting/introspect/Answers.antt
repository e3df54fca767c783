use Rattle.std.proofs.Common.{rules, Some}
use Rattle.std.proofs.lemmas.Result.{IfOk-weaker}
use Rattle.gnap_history.specs.Drawings.{trail, supply}
use Rattle.gnap_history.proofs.Acting.{acts_as}
use Rattle.gnap_history.proofs.Deciding.{introspect_as}
use Rattle.gnap_history.proofs.introspecting.introspect.Goals as goal

pub returns-in-Some : goal.returns-in-Some
returns-in-Some c =
    let drawing = c.args.drawing.now in
    acts_as (supply drawing) c.show.result _ _
    (introspect_as c.args.setup.now (trail drawing) drawing.moment c.args.server.now c.args.value.now c.args.binding c.args.wanted.now
    (Some c.in-Some.token.now)
    c.server_names-names.result.now (rw c.as_slice.ensures.value at c.server_names-names.ensures) (search rules) (search rules))
    (IfOk-weaker c.show.result _ _ (λ answered each. each (supply drawing)) c.show.ensures)
