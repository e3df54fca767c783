-- Sets of texts.
use Rattle.std.specs.Prelude.{ℕ, List, Bool}
use Rattle.std.specs.BTreeSet.{contains_text}
use Rattle.json_objects.specs.declared.text_set.TextSet.{TextSet}

-- the set has the text
abbrev pub has_text : TextSet → List ℕ → Bool
has_text set text = contains_text set.texts text
