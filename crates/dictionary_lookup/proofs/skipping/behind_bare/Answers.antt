use Rattle.std.proofs.Common.{sym, ◌∙◌}
use Rattle.dictionary_lookup.proofs.Behind.{quote_passes}
use Rattle.dictionary_lookup.proofs.skipping.behind_bare.Goals as goal

pub returns-in-None : goal.returns-in-None
returns-in-None c = quote_passes _ _ c.in-Some.ensures.0 c.in-Some.ensures.1 ∙ sym c.in-None.ensures

pub returns-in-Some-behind_string : goal.returns-in-Some-behind_string
returns-in-Some-behind_string c = quote_passes _ _ c.in-Some.ensures.0 c.in-Some.ensures.1 ∙ sym c.in-Some-behind_string.ensures
