use Rattle.round_trips.proofs.RepliesAgain.{grant_replies_read_back_law}
use Rattle.round_trips.proofs.laws.grant_replies_read_back.Goals as goal

pub returns : goal.returns
returns c = grant_replies_read_back_law
