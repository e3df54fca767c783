use Rattle.grant_values.proofs.GrantsAgain.{reads_back_law}
use Rattle.grant_values.proofs.laws.reads_back.Goals as goal

pub returns : goal.returns
returns c = reads_back_law
