use Rattle.gnap_laws.proofs.Active.{says}
use Rattle.gnap_laws.proofs.laws.says_active.Goals as goal

pub returns : goal.returns
returns c = says
