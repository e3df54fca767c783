use Rattle.std.proofs.Common.{arith, ap, sym, ◌∙◌}
use Rattle.std.specs.Str.{bytes_eq}
use Rattle.structured_fields.proofs.Places.{stands_at, not_yet}
use Rattle.structured_fields.proofs.named.place_among.Goals as goal

pub returns-then-eq : goal.returns-then-eq
returns-then-eq g c =
    stands_at c.args.entries.now c.args.name.now c.loop-i.i c.index-entries-i.result (omega (arith, c.loop-i-test.true)) c.loop-i.invariant c.index-entries-i.is
    (c.if-eq.ensures ∙ ap (bytes_eq c.args.name.now) c.as_slice.ensures.value)

pub loop-i-preserved : goal.loop-i-preserved
loop-i-preserved g c =
    not_yet c.args.entries.now c.args.name.now c.loop-i.i c.index-entries-i.result (omega (arith, c.loop-i-test.true)) c.loop-i.invariant c.index-entries-i.is
    (sym c.if-eq.false ∙ c.eq.ensures ∙ ap (bytes_eq c.args.name.now) c.as_slice.ensures.value)
