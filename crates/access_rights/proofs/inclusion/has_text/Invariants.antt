use Rattle.std.proofs.Common.{◌≡◌, drop}
use Rattle.std.specs.List.{list_any}
use Rattle.gnap_model.specs.Common.{same_text}
use Rattle.access_rights.proofs.inclusion.has_text.Given as goal

abbrev pub invariant-loop-other : goal.invariant-loop-other
invariant-loop-other l = list_any (same_text l.text) (drop l.other-index l.other-items) ≡ list_any (same_text l.text) l.texts
