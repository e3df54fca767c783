use Rattle.round_trips.proofs.IntrospectionsAgain.{introspections_read_back_law}
use Rattle.round_trips.proofs.laws.introspections_read_back.Goals as goal

pub returns : goal.returns
returns c = introspections_read_back_law
