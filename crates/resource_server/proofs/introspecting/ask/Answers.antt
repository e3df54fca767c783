use Rattle.resource_server.proofs.Asking.{never_sent, sent}
use Rattle.resource_server.proofs.introspecting.ask.Goals as goal

pub returns-in_default : goal.returns-in_default
returns-in_default g c = never_sent _ _ _ _

pub returns : goal.returns
returns g c = sent c.args.setup.now c.args.now c.args.text c.in-Ok.request c.as_slice.result.now _ _ c.exchange.result
    c.in-Ok.ensures c.as_slice.ensures.value c.exchange.ensures
