use Rattle.std.proofs.Common.{◌≡◌, drop}
use Rattle.std.specs.List.{list_any}
use Rattle.gnap_model.specs.Common.{same_text}
use Rattle.grant_rules.proofs.user_codes.is_taken.Given as goal

abbrev pub invariant-loop-other : goal.invariant-loop-other
invariant-loop-other l = list_any (same_text l.code) l.taken ≡ list_any (same_text l.code) (drop l.other-index l.taken)
