use Rattle.std.proofs.Common.{◌++◌, sym, ap, ◌∙◌, arith}
use Rattle.std.specs.Option.{option_map}
use Rattle.std.proofs.lemmas.List.{drop_all}
use Rattle.std.proofs.lemmas.Result.{err_from_is_err_and}
use Rattle.rotation_checks.specs.RotationBase.{rotation_lines}
use Rattle.rotation_checks.proofs.RotationLines.{lines_start, lines_more, lines_failed, lines_end}
use Rattle.rotation_checks.proofs.base.lines_of.Goals as goal

pub loop-i-init : goal.loop-i-init
loop-i-init c = rw c.new-text.ensures (lines_start (rotation_lines c.args.message.now c.args.base.now c.args.fields.now c.args.items.now))

pub loop-i-preserved : goal.loop-i-preserved
loop-i-preserved c = lines_more c.args.message.now c.args.base.now c.args.fields.now c.args.items.now c.loop-i.i c.at.result.now c.loop-i.text c.at.ensures
    c.loop-i.invariant c.in_ok-text.text
    (rw c.others_behind.ensures at c.in_ok-text.ensures)

pub returns-in_err-text : goal.returns-in_err-text
returns-in_err-text c = let p = err_from_is_err_and c.from_residual.result c.from_residual.ensures.1 in rw (p.1, p.2)
    (lines_failed c.args.message.now c.args.base.now c.args.fields.now c.args.items.now c.loop-i.i c.at.result.now c.loop-i.text c.at.ensures c.loop-i.invariant
    c.in_err-text.field-0.0
    (rw c.others_behind.ensures at c.in_err-text.ensures))

pub returns : goal.returns
returns c =
    let none = drop_all c.loop-i.i c.args.items.now (omega arith) in
    sym c.loop-i.invariant ∙ ap (λ items. option_map (λ t. c.loop-i.text ++ t) (rotation_lines c.args.message.now c.args.base.now c.args.fields.now items)) none
    ∙ lines_end c.args.message.now c.args.base.now c.args.fields.now c.loop-i.text
