use Rattle.std.proofs.Common.{◌++◌, sym, ap, ◌∙◌, arith}
use Rattle.std.specs.Option.{option_map}
use Rattle.std.proofs.lemmas.List.{drop_all}
use Rattle.std.proofs.lemmas.Result.{err_from_is_err_and}
use Rattle.message_signature.specs.BaseTemplates.{line_templates}
use Rattle.message_signature.proofs.FilledTemplates.{template_more, template_failed, templates_end}
use Rattle.message_signature.proofs.base_template.line_templates.Goals as goal

pub returns-in_err-line : goal.returns-in_err-line
returns-in_err-line c = let p = err_from_is_err_and c.from_residual.result c.from_residual.ensures.1 in rw (p.1, p.2)
    (template_failed c.args.items.now c.loop-i.i c.at.result.now c.loop-i.before.now c.loop-i.lines c.at.ensures c.loop-i.invariant
    c.in_err-line.field-0.0
    (rw c.others_behind.ensures at c.in_err-line.ensures))

pub loop-i-preserved : goal.loop-i-preserved
loop-i-preserved c = rw c.in_ok-push.ensures.ok
    (template_more c.args.items.now c.loop-i.i c.at.result.now c.loop-i.before.now c.loop-i.lines c.at.ensures c.loop-i.invariant c.in_ok-line.line
    (rw c.others_behind.ensures at c.in_ok-line.ensures))

pub returns : goal.returns
returns c =
    let none = drop_all c.loop-i.i c.args.items.now (omega arith) in
    sym c.loop-i.invariant ∙ ap (λ items. option_map (λ ls. c.loop-i.lines ++ ls) (line_templates c.loop-i.before.now items)) none
    ∙ templates_end c.loop-i.before.now c.loop-i.lines
