use Rattle.std.proofs.Common.{◌≡◌, take}
use Rattle.gnap_model.specs.Asked.{asked_rights}
use Rattle.grant_rules.proofs.deciding.asked_rights.Given as goal

abbrev pub invariant-loop-ask : goal.invariant-loop-ask
invariant-loop-ask l = l.rights ≡ asked_rights (take l.ask-index l.asks)
