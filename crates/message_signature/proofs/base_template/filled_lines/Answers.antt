use Rattle.std.proofs.Common.{◌++◌, sym, ap, ◌∙◌, arith}
use Rattle.std.specs.Option.{option_map}
use Rattle.std.proofs.lemmas.List.{drop_all}
use Rattle.std.proofs.lemmas.Result.{err_from_is_err_and}
use Rattle.message_signature.specs.BaseTemplates.{filled_lines}
use Rattle.message_signature.proofs.Lines.{lines_start}
use Rattle.message_signature.proofs.FilledTemplates.{filled_more, filled_failed, filled_end}
use Rattle.message_signature.proofs.base_template.filled_lines.Goals as goal

pub loop-i-init : goal.loop-i-init
loop-i-init c = rw c.in_ok-empty.ensures (lines_start (filled_lines c.args.message.now c.args.base.now c.args.lines.now))

pub loop-i-preserved : goal.loop-i-preserved
loop-i-preserved c = filled_more c.args.message.now c.args.base.now c.args.lines.now c.loop-i.i c.at.result.now c.loop-i.text c.at.ensures c.loop-i.invariant
    c.in_ok-text.text c.in_ok-text.ensures

pub returns-in_err-text : goal.returns-in_err-text
returns-in_err-text c = let p = err_from_is_err_and c.from_residual-in_err-text.result c.from_residual-in_err-text.ensures.1 in rw (p.1, p.2)
    (filled_failed c.args.message.now c.args.base.now c.args.lines.now c.loop-i.i c.at.result.now c.loop-i.text c.at.ensures c.loop-i.invariant
    c.in_err-text.field-0.0 c.in_err-text.ensures)

pub returns : goal.returns
returns c =
    let none = drop_all c.loop-i.i c.args.lines.now (omega arith) in
    sym c.loop-i.invariant ∙ ap (λ lines. option_map (λ t. c.loop-i.text ++ t) (filled_lines c.args.message.now c.args.base.now lines)) none
    ∙ filled_end c.args.message.now c.args.base.now c.loop-i.text
