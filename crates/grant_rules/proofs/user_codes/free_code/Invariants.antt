use Rattle.std.proofs.Common.{◌≡◌, ◌-◌, ◌<◌, length}
use Rattle.gnap_model.specs.Values.{code_count, free_code}
use Rattle.grant_rules.proofs.user_codes.free_code.Given as goal

abbrev pub invariant-loop : goal.invariant-loop
invariant-loop l = record {
  in_circle : l.tried < code_count;
  same : free_code (length l.taken - l.index) l.tried l.taken ≡ free_code (length l.taken) l.number l.taken;
}
