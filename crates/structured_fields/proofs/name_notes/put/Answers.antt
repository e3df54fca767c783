use Rattle.std.proofs.Common.{arith}
use Rattle.structured_fields.proofs.NameNotes.{put_there, put_stays}
use Rattle.structured_fields.proofs.name_notes.put.Goals as goal

pub returns-clause-ok : goal.returns-clause-ok
returns-clause-ok c = put_there c.args.notes.now.items c.grow.new.notes.items c.args.at c.args.number c.in_ok-grow.ensures.same
    (omega (arith, c.grow.new.notes.ok.0, c.in_ok-grow.ensures.count)) c.requires.positive

pub returns-clause-extends : goal.returns-clause-extends
returns-clause-extends c = put_stays c.args.notes.now.items c.grow.new.notes.items c.args.at c.args.number c.in_ok-grow.ensures.same
    (omega (arith, c.grow.new.notes.ok.0, c.in_ok-grow.ensures.count)) c.requires.empty
