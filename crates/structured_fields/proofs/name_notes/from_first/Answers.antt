use Rattle.structured_fields.proofs.NameNotes.{extends_on, first_step}
use Rattle.structured_fields.proofs.name_notes.from_first.Goals as goal

pub returns-clause-ok : goal.returns-clause-ok
returns-clause-ok c more extends =
    let before = extends_on c.further_noting.new.notes.items c.from_second.new.notes.items more c.in_ok-fourth.ensures.extends extends in
    first_step more c.args.node _ c.in_ok-first.first c.in_ok-fourth.fourth _ (c.in_ok-first.ensures.ok more before) (c.in_ok-fourth.ensures.ok more extends)
