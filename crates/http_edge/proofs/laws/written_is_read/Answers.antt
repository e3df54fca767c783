use Rattle.http_edge.proofs.WrittenReplies.{written_is_read_law}
use Rattle.http_edge.proofs.laws.written_is_read.Goals as goal

pub returns : goal.returns
returns c = written_is_read_law
