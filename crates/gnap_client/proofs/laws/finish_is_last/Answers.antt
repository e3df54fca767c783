use Rattle.gnap_client.proofs.Memory.{finish_is_last_law}
use Rattle.gnap_client.proofs.laws.finish_is_last.Goals as goal

pub returns : goal.returns
returns c = finish_is_last_law
