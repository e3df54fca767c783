use Rattle.resource_server.proofs.Allowing.{fault_rose}
use Rattle.resource_server.proofs.guarding.guard.Goals as goal

pub returns-clause-cause : goal.returns-clause-cause
returns-clause-cause g c = λ is.
    fault_rose c.args.setup.now c.args.message.now c.args.now (g.L.Link.link c.args.link.now) (g.L.Link.link c.first_answer.new.link) c.first_answer.result
    c.first_answer.ensures.guards is
