use Rattle.std.proofs.Common.{◌≡◌, length}
use Rattle.resource_sets.proofs.sameness.SeqSame.is_same.Given as goal

-- both are equal exactly where what is left of both is, which is as long
abbrev pub invariant-loop-one : goal.invariant-loop-one
invariant-loop-one g l =
    ((l.one-iterator.a.rest.now ≡ l.one-iterator.b.rest.now → l.self ≡ l.other) × (l.self ≡ l.other → l.one-iterator.a.rest.now ≡ l.one-iterator.b.rest.now))
    × (length l.one-iterator.a.rest.now ≡ length l.one-iterator.b.rest.now)
