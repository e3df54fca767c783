use Rattle.std.proofs.Common.{◌≡◌, true, rules, refl}
use Rattle.std.specs.Prelude.{is_some}
use Rattle.gnap_model.specs.Actions.Action.{RefuseAndFinalize}
use Rattle.gnap_model.specs.declared.objects.ErrorCode.TheVariants.{TooManyAttempts}
use Rattle.gnap_history.specs.Drawings.{supply}
use Rattle.gnap_history.proofs.Acting.{acts_as}
use Rattle.gnap_history.proofs.continuing.continue_approved.Goals as goal

pub returns-then-is_some : goal.returns-then-is_some
returns-then-is_some c =
    let some : is_some c.args.reference.now ≡ true = search rules in
    acts_as (supply c.args.drawing.now) c.refuse_and_finalize.result (RefuseAndFinalize c.args.opening.now TooManyAttempts) _ (rw some refl)
    c.refuse_and_finalize.ensures
