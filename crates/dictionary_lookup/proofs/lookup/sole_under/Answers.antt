use Rattle.std.proofs.Common.{sym, ◌∙◌}
use Rattle.dictionary_lookup.proofs.SoleMembers.{sole_found}
use Rattle.dictionary_lookup.proofs.lookup.sole_under.Goals as goal

pub returns : goal.returns
returns c = sole_found c.args.text.now c.args.key.now c.in_ok-behind.field-0-0.now c.in_ok-behind.behind.now c.in_ok-sole_bytes.field-0
    (sym c.in_ok-behind.ensures) (sym c.is_empty.ensures ∙ c.if-not-is_empty.false) c.in_ok-sole_bytes.ensures
