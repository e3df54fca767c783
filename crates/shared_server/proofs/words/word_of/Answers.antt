use Rattle.std.proofs.Common.{arith}
use Rattle.shared_server.proofs.words.word_of.Goals as goal

pub overflow_mul-result : goal.overflow_mul-result
overflow_mul-result c = omega arith

pub overflow_add-result : goal.overflow_add-result
overflow_add-result c = omega arith

pub returns-clause-behind : goal.returns-clause-behind
returns-clause-behind c = omega arith

pub returns-clause-within : goal.returns-clause-within
returns-clause-within c = omega arith
