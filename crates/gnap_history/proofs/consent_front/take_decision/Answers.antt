use Rattle.std.proofs.Common.{◌≡◌, ◌∙◌, ap}
use Rattle.std.specs.Prelude.{is_some, option_map}
use Rattle.std.specs.declared.option.Option.{Option}
use Rattle.std.proofs.lemmas.Result.{IfOk-weaker}
use Rattle.gnap_model.specs.Common.{some_if}
use Rattle.gnap_model.specs.declared.calls.FinishOut.{FinishOut}
use Rattle.gnap_model.specs.Actions.{drawn_value}
use Rattle.gnap_history.specs.Drawings.{supply}
use Rattle.gnap_history.proofs.Decisions.{reference_told}
use Rattle.gnap_history.proofs.consent_front.take_decision.Goals as goal

pub returns : goal.returns
returns c =
    let drawing = c.args.drawing.now in
    let round = c.args.round.now in
    let told : c.reference_in.result ≡ some_if (is_some round.modes.finish) (drawn_value (supply drawing) 0) =
    c.reference_in.ensures ∙ ap (λ (finish : Option FinishOut). option_map (λ ending. ending.reference) finish) c.in_ok-finish.ensures
    ∙ reference_told (supply drawing) round round.modes.finish in
    IfOk-weaker c.noted.result _ _ (λ answered both. (cc (both.0, c.in_ok-finish.ensures), cc (both.1, told, c.in_ok-copy.ensures))) c.noted.ensures
