use Rattle.std.proofs.Common.{rules}
use Rattle.gnap_model.specs.Standing.{managed_token}
use Rattle.gnap_model.specs.declared.objects.ErrorCode.TheVariants.{InvalidRequest}
use Rattle.gnap_history.specs.Drawings.{trail, supply}
use Rattle.gnap_history.proofs.Acting.{found_as}
use Rattle.gnap_history.proofs.managing.revoke.Goals as goal

pub returns-in-Some : goal.returns-in-Some
returns-in-Some c =
    let drawing = c.args.drawing.now in
    found_as (supply drawing) c.revoke_token.result InvalidRequest _ (managed_token (trail drawing) drawing.moment c.args.value.now) c.in-Some.token.now
    (search rules) c.revoke_token.ensures
