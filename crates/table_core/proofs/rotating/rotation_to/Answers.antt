use Rattle.std.proofs.Common.{◌≡◌, true, rules}
use Rattle.gnap_model.specs.Manage.{can_bind}
use Rattle.table_core.proofs.rotating.rotation_to.Goals as goal

pub returns-in-None : goal.returns-in-None
returns-in-None c = rw c.in-None.is c.succeed.ensures

pub returns-then-can_bind : goal.returns-then-can_bind
returns-then-can_bind c =
    let binds : can_bind c.args.rules.now c.args.token.now.bearer c.in-Some.named ≡ true = search rules in
    rw (c.in-Some.is, binds) c.succeed-then-can_bind.ensures
