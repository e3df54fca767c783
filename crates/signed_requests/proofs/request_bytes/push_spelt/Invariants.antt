use Rattle.std.proofs.Common.{◌≡◌, ◌++◌, true, drop}
use Rattle.signed_requests.specs.Requests.{spelt_from}
use Rattle.signed_requests.proofs.request_bytes.push_spelt.Given as goal

abbrev pub invariant-loop-c : goal.invariant-loop-c
invariant-loop-c l = l.out ++ spelt_from l.begins (drop l.c-index l.name) ≡ l.fn.out ++ spelt_from true l.name
