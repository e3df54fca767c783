use Rattle.std.proofs.Common.{◌≡◌, ◌++◌, drop}
use Rattle.std.specs.Option.{option_map}
use Rattle.message_signature.specs.Verified.{with_tag}
use Rattle.message_signature.proofs.WithTag.{held}
use Rattle.message_signature.proofs.tags.only_one.Given as goal

abbrev pub invariant-loop-i : goal.invariant-loop-i
invariant-loop-i l = held (option_map (λ x. (x.0.now, x.1.now)) l.found) ++ with_tag l.tag (drop l.i l.inputs) ≡ with_tag l.tag l.inputs
