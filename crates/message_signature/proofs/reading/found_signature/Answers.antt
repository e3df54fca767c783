use Rattle.std.proofs.Common.{refl}
use Rattle.message_signature.proofs.reading.found_signature.Goals as goal

pub returns-in-Alone-clause-ok : goal.returns-in-Alone-clause-ok
returns-in-Alone-clause-ok c label = (label, rw (c.in-Alone.is, c.list.ensures) refl)

pub returns-in_ok-one-in-Among-clause-ok : goal.returns-in_ok-one-in-Among-clause-ok
returns-in_ok-one-in-Among-clause-ok c label = (c.in_ok-one-in-Among.one.label.now, rw c.in-Among.is c.in_ok-one-in-Among.ensures)
