use Rattle.std.proofs.Common.{◌≡◌, drop}
use Rattle.std.specs.List.{list_any}
use Rattle.gnap_model.specs.Common.{same_text}
use Rattle.gnap_model.specs.Rights.{right_name}
use Rattle.access_rights.proofs.served.serves.Given as goal

abbrev pub invariant-loop-other : goal.invariant-loop-other
invariant-loop-other l = list_any (same_text l.name) (drop l.other-index l.other-items) ≡ list_any (same_text (right_name l.right)) l.names
