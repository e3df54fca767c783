use Rattle.std.proofs.Common.{◌≡◌, drop}
use Rattle.std.specs.Prelude.{filter}
use Rattle.std.specs.Option.{option_map}
use Rattle.resource_server.specs.Routing.{is_authorization, only_value, one_more}
use Rattle.resource_server.proofs.routing.only_value.Given as goal

abbrev pub invariant-loop-field : goal.invariant-loop-field
invariant-loop-field l = one_more (option_map (λ v. v.now) l.found) (filter is_authorization (drop l.field-index l.field-items))
    ≡ only_value (filter is_authorization l.field-items)
