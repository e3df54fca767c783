use Rattle.std.proofs.Common.{rules, of_calls, ltb}
use Rattle.std.proofs.lemmas.Fn.{always_returns_same}
use Rattle.std.proofs.lemmas.List.Sorted.{IsPartitionedBy-ltb}
use Rattle.grant_states.specs.declared.numbers_by_key.Listed.{Listed}
use Rattle.grant_states.specs.Listed.{key_of}
use Rattle.grant_states.proofs.numbers_by_key.start_of.Goals as goal

pub returns-clause-start : goal.returns-clause-start
returns-clause-start c = c.partition_point.ensures.partitioned (λ (one : Listed). ltb (key_of one) c.args.key)
    (always_returns_same _ _ _ (λ a r f k. search (rules, of_calls)))
    (IsPartitionedBy-ltb key_of c.args.listed.now c.args.key c.requires)
