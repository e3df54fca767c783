use Rattle.message_round_trips.proofs.RequestsAgain.{signed_read_back, marked_read_back}
use Rattle.message_round_trips.proofs.laws.signed_requests_read_back.Goals as goal

pub returns-clause-plain : goal.returns-clause-plain
returns-clause-plain c = signed_read_back

pub returns-clause-marked : goal.returns-clause-marked
returns-clause-marked c = marked_read_back
