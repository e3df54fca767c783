use Rattle.as_requests.proofs.NewKeys.{none_added}
use Rattle.as_requests.proofs.edge.ring_of.Goals as goal

pub loop-key-init : goal.loop-key-init
loop-key-init c = rw c.new-ring.ensures (none_added c.args.setup.now c.requires)
