use Rattle.std.proofs.Common.{arith, refl, sym, ◌∙◌}
use Rattle.std.specs.Option.{unwrap_or}
use Rattle.structured_fields.specs.NameNotes.{noted}
use Rattle.structured_fields.proofs.NameNotes.{extends_itself, extends_on, extends_same, walk_more, is_noted, none_before}
use Rattle.structured_fields.proofs.name_notes.note.Goals as goal

pub loop-byte-init : goal.loop-byte-init
loop-byte-init c = record {
  follows = λ more extends. refl;
  extends = extends_same c.args.notes.now.items c.grow.new.notes.items c.in_ok-grow.ensures.same;
}

pub loop-byte-preserved : goal.loop-byte-preserved
loop-byte-preserved c = record {
  follows = λ more extends. walk_more more c.args.name.now c.loop-byte.byte-index c.loop-byte.node (noted more c.args.name.now)
      (c.loop-byte.invariant.follows more (extends_on c.loop-byte.notes.items c.below_noting.new.notes.items more c.in_ok-node.ensures.extends extends))
      c.loop-byte-test.true
      c.in_ok-node.node (c.in_ok-node.ensures.ok more extends);
  extends = extends_on c.args.notes.now.items c.loop-byte.notes.items c.below_noting.new.notes.items c.loop-byte.invariant.extends c.in_ok-node.ensures.extends;
}

pub returns-clause-before : goal.returns-clause-before
returns-clause-before c none =
    none_before c.args.notes.now.items c.loop-byte.notes.items c.args.name.now c.loop-byte.byte-index c.loop-byte.node c.loop-byte.invariant.extends
    (c.loop-byte.invariant.follows c.loop-byte.notes.items (extends_itself c.loop-byte.notes.items)) (omega arith)
    (sym (rw c.cell_of.ensures.cell at c.in_ok-before.ensures.before) ∙ none)

pub returns-clause-ok : goal.returns-clause-ok
returns-clause-ok c =
    is_noted c.note_at.new.notes.items c.args.name.now c.loop-byte.byte-index c.loop-byte.node (unwrap_or c.in_ok-before.before c.in_ok-number.number)
    (omega arith)
    (c.loop-byte.invariant.follows c.note_at.new.notes.items c.in_ok-before.ensures.extends) (rw c.cell_of.ensures.cell at c.in_ok-before.ensures.after)

pub returns-in_err-node-clause-extends : goal.returns-in_err-node-clause-extends
returns-in_err-node-clause-extends c =
    extends_on c.args.notes.now.items c.loop-byte.notes.items c.below_noting.new.notes.items c.loop-byte.invariant.extends c.in_err-node.ensures.extends

pub returns-in_err-before-clause-extends : goal.returns-in_err-before-clause-extends
returns-in_err-before-clause-extends c =
    extends_on c.args.notes.now.items c.loop-byte.notes.items c.note_at.new.notes.items c.loop-byte.invariant.extends c.in_err-before.ensures.extends

pub returns-clause-extends : goal.returns-clause-extends
returns-clause-extends c =
    extends_on c.args.notes.now.items c.loop-byte.notes.items c.note_at.new.notes.items c.loop-byte.invariant.extends c.in_ok-before.ensures.extends
