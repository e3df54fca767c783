use Rattle.gnap_client.proofs.Memory.{subject_is_last_law}
use Rattle.gnap_client.proofs.laws.subject_is_last.Goals as goal

pub returns : goal.returns
returns c = subject_is_last_law
