use Rattle.std.proofs.Common.{sym, ◌∙◌, arith}
use Rattle.structured_fields.specs.NameNotes.{noted}
use Rattle.structured_fields.proofs.NameNotes.{walk_more, walk_fails, walk_done}
use Rattle.structured_fields.proofs.name_notes.noted.Goals as goal

pub returns-in_err-node : goal.returns-in_err-node
returns-in_err-node c =
    c.from_residual.ensures
    ∙ walk_fails c.args.cells.now c.args.name.now c.loop-byte.byte-index c.loop-byte.node (noted c.args.cells.now c.args.name.now) c.loop-byte.invariant
    c.loop-byte-test.true (sym c.in_err-node.ensures)

pub loop-byte-preserved : goal.loop-byte-preserved
loop-byte-preserved c =
    walk_more c.args.cells.now c.args.name.now c.loop-byte.byte-index c.loop-byte.node (noted c.args.cells.now c.args.name.now) c.loop-byte.invariant
    c.loop-byte-test.true
    c.in_ok-node.node (sym c.in_ok-node.ensures)

pub returns : goal.returns
returns c =
    c.further.ensures
    ∙ walk_done c.args.cells.now c.args.name.now c.loop-byte.byte-index c.loop-byte.node (noted c.args.cells.now c.args.name.now) c.loop-byte.invariant
    (omega arith)
