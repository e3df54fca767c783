use Rattle.resource_sets.proofs.RepliesFit.{replies-fit}
use Rattle.resource_sets.proofs.laws.set_replies_fit.Goals as goal

pub returns : goal.returns
returns c = λ rules h legal before e after is. replies-fit rules h before e after legal is
