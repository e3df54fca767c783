use Rattle.resource_server.proofs.Denying.{deny_means_law}
use Rattle.resource_server.proofs.laws.deny_means.Goals as goal

pub returns : goal.returns
returns c = deny_means_law
