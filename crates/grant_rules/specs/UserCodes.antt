-- The user code that an entry draws.
use Rattle.std.specs.Prelude.{length, slice_index}
use Rattle.gnap_model.specs.Common.{Text}
use Rattle.gnap_model.specs.Values.{free_code}
use Rattle.gnap_model.specs.Actions.{Supply}

-- from the last of the 48 words, the first one that is not taken (RFC 9635, section 3.3.3)
abbrev pub code_for : Supply → Text
code_for supply = free_code (length supply.taken) (slice_index supply.words 47) supply.taken
