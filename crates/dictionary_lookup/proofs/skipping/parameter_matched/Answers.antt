use Rattle.dictionary_lookup.proofs.Behind.{parameter_is, parameter_none}
use Rattle.dictionary_lookup.proofs.skipping.parameter_matched.Goals as goal

pub returns-in_default : goal.returns-in_default
returns-in_default c = parameter_none c.args.name.now c.args.s.now c.args.before c.args.bytes.now (rw c.without_spaces.ensures at c.in_default.ensures)

pub returns : goal.returns
returns c =
    rw (parameter_is c.args.name.now c.args.s.now c.args.before c.args.bytes.now c.in-Some.key.now c.in-Some.rest.now
    (rw c.without_spaces.ensures at c.in-Some.ensures))
    (rw c.eq.ensures at c.value_matched.ensures)
