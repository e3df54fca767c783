use Rattle.std.proofs.Common.{sym, ◌∙◌}
use Rattle.structured_fields.proofs.Places.{stands_under}
use Rattle.structured_fields.proofs.named.Named.has_at.Goals as goal

pub returns : goal.returns
returns g c t =
    stands_under c.args.self.now c.args.place c.args.name.now c.at.result.0.now c.at.result.1.now c.len.ensures.distinct c.at.ensures
    (rw c.as_slice.ensures.value at (sym c.eq.ensures ∙ t))
