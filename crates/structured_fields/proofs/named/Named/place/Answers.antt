use Rattle.std.proofs.Common.{ap, ◌∙◌}
use Rattle.structured_fields.specs.Named.{place_of}
use Rattle.structured_fields.proofs.Places.{within_all}
use Rattle.structured_fields.proofs.named.Named.place.Goals as goal

pub returns-then-len-le-FEW-clause-within : goal.returns-then-len-le-FEW-clause-within
returns-then-len-le-FEW-clause-within g c =
    within_all c.args.self.now c.args.name.now c.place_among.result
    (c.place_among.ensures ∙ ap (λ l. place_of l c.args.name.now) (c.as_slice.ensures.value ∙ c.self.view_is))

pub returns-clause-within : goal.returns-clause-within
returns-clause-within g c = within_all c.args.self.now c.args.name.now c.place_told.result c.place_told.ensures
