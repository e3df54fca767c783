use Rattle.structured_fields.proofs.NameNotes.{extends_on, first_step, last_step}
use Rattle.structured_fields.proofs.name_notes.from_third.Goals as goal

pub returns-clause-ok : goal.returns-clause-ok
returns-clause-ok c more extends =
    let before = extends_on c.further_noting.new.notes.items c.further_noting-2.new.notes.items more c.in_ok-fourth.ensures.extends extends in
    first_step more c.args.node _ c.in_ok-third.third c.in_ok-fourth.fourth _ (c.in_ok-third.ensures.ok more before)
    (last_step more _ _ _ (c.in_ok-fourth.ensures.ok more extends))
