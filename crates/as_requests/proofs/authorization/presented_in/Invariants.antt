use Rattle.std.proofs.Common.{◌≡◌, drop}
use Rattle.std.specs.Option.{option_map}
use Rattle.as_requests.specs.Presented.{authorizations}
use Rattle.as_requests.proofs.Authorizations.{held}
use Rattle.as_requests.proofs.authorization.presented_in.Given as goal

abbrev pub invariant-loop-field : goal.invariant-loop-field
invariant-loop-field l = held (option_map (λ v. v.now) l.found) (authorizations (drop l.field-index l.fields)) ≡ authorizations l.fields
