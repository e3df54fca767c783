use Rattle.std.proofs.Common.{◌≡◌, drop}
use Rattle.std.specs.List.{list_any}
use Rattle.gnap_model.specs.Rights.{serves}
use Rattle.grant_rules.proofs.suiting.serves_any.Given as goal

abbrev pub invariant-loop-right : goal.invariant-loop-right
invariant-loop-right l = list_any (serves l.names) l.rights ≡ list_any (serves l.names) (drop l.right-index l.rights)
