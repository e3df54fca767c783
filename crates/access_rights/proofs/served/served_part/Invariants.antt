use Rattle.std.proofs.Common.{◌≡◌, ◌++◌, drop}
use Rattle.gnap_model.specs.Rights.{served_part}
use Rattle.access_rights.proofs.served.served_part.Given as goal

abbrev pub invariant-loop-right : goal.invariant-loop-right
invariant-loop-right l = (l.served ++ served_part l.names (drop l.right-index l.right-items)) ≡ served_part l.names l.rights
