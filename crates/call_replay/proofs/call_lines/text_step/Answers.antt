use Rattle.std.proofs.Common.{◌∙◌, sym, true≢false}
use Rattle.std.proofs.lemmas.Result.{IfOk-weaker}
use Rattle.serde_json.specs.View.{view}
use Rattle.call_replay.proofs.CallLines.{text_is, text_is_none}
use Rattle.call_replay.proofs.call_lines.text_step.Goals as goal

pub returns-in-Ok-clause-step : goal.returns-in-Ok-clause-step
returns-in-Ok-clause-step c =
    IfOk-weaker c.object_step.result _ _ (λ s is. is ∙ sym (text_is c.args.setup.now c.args.number c.args.line.now (view c.in-Ok.value) c.in-Ok.ensures.ok))
    c.object_step.ensures.step

pub returns-else-is_memory-clause-step : goal.returns-else-is_memory-clause-step
returns-else-is_memory-clause-step c =
    IfOk-weaker c.refused.result _ _
    (λ s is. is ∙ sym (text_is_none c.args.setup.now c.args.number c.args.line.now
    (c.in-Err.ensures.err (λ m. true≢false (sym (c.is_memory.ensures.1 m) ∙ c.if-is_memory.false))))) c.refused.ensures.step
