use Rattle.gnap_client.proofs.Memory.{interaction_is_last_law}
use Rattle.gnap_client.proofs.laws.interaction_is_last.Goals as goal

pub returns : goal.returns
returns c = interaction_is_last_law
