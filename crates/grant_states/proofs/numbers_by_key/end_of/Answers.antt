use Rattle.std.proofs.Common.{rules, of_calls, leb}
use Rattle.std.proofs.lemmas.Fn.{always_returns_same}
use Rattle.std.proofs.lemmas.List.Sorted.{IsPartitionedBy-leb}
use Rattle.grant_states.specs.declared.numbers_by_key.Listed.{Listed}
use Rattle.grant_states.specs.Listed.{key_of}
use Rattle.grant_states.proofs.numbers_by_key.end_of.Goals as goal

pub returns-clause-end : goal.returns-clause-end
returns-clause-end c = c.partition_point.ensures.partitioned (λ (one : Listed). leb (key_of one) c.args.key)
    (always_returns_same _ _ _ (λ a r f k. search (rules, of_calls)))
    (IsPartitionedBy-leb key_of c.args.listed.now c.args.key c.requires)
