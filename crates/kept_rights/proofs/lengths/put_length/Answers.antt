use Rattle.std.proofs.Common.{rules, append_assoc}
use Rattle.kept_rights.specs.Written.{written_length}
use Rattle.kept_rights.proofs.lengths.put_length.Goals as goal

pub returns : goal.returns
unfolding written_length
returns c = search (rules, append_assoc)
