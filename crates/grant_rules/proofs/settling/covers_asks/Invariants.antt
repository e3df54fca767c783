use Rattle.std.proofs.Common.{◌≡◌, drop}
use Rattle.gnap_model.specs.Rights.{covers}
use Rattle.gnap_model.specs.Asked.{asked_rights}
use Rattle.grant_rules.proofs.settling.covers_asks.Given as goal

abbrev pub invariant-loop-ask : goal.invariant-loop-ask
invariant-loop-ask l = covers l.granted (asked_rights l.asks) ≡ covers l.granted (asked_rights (drop l.ask-index l.asks))
