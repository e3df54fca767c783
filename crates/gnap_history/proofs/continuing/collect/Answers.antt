use Rattle.std.proofs.Common.{refl}
use Rattle.gnap_model.specs.Actions.Action.{RefuseAndFinalize}
use Rattle.gnap_model.specs.declared.objects.ErrorCode.TheVariants.{UserDenied, UnknownUser}
use Rattle.gnap_history.specs.Drawings.{supply}
use Rattle.gnap_history.proofs.Acting.{acts_as}
use Rattle.gnap_history.proofs.continuing.collect.Goals as goal

pub returns-in-Deny : goal.returns-in-Deny
returns-in-Deny c =
    acts_as (supply c.args.drawing.now) c.refuse_and_finalize.result (RefuseAndFinalize c.args.opening.now UserDenied) _ (rw c.in-Deny.is refl)
    c.refuse_and_finalize.ensures

pub returns-in-Unknown : goal.returns-in-Unknown
returns-in-Unknown c =
    acts_as (supply c.args.drawing.now) c.refuse_and_finalize-in-Unknown.result (RefuseAndFinalize c.args.opening.now UnknownUser) _ (rw c.in-Unknown.is refl)
    c.refuse_and_finalize-in-Unknown.ensures
