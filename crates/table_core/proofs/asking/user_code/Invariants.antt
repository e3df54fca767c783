use Rattle.std.proofs.Common.{◌≡◌, ◌-◌, ◌<◌, length}
use Rattle.gnap_model.specs.Values.{code_count, free_code}
use Rattle.grant_rules.specs.UserCodes.{code_for}
use Rattle.table_core.specs.Entries.{supply, tables}
use Rattle.table_core.proofs.asking.user_code.Given as goal

abbrev pub invariant-loop : goal.invariant-loop
invariant-loop l = record {
  in_circle : l.tried < code_count;
  same : free_code (length (tables l.entering).grants - l.counter) l.tried (supply l.entering).taken ≡ code_for (supply l.entering);
}
