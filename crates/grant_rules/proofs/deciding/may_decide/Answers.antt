use Rattle.std.proofs.Common.{sym}
use Rattle.gnap_model.specs.Asked.{asked_rights}
use Rattle.grant_rules.proofs.WholeDecisions.{covers_itself}
use Rattle.grant_rules.proofs.deciding.may_decide.Goals as goal

pub returns-in-Grant-None : goal.returns-in-Grant-None
returns-in-Grant-None c = rw (c.in-Grant-None.is-0, c.in-Grant-None.is-1) (sym (covers_itself (asked_rights c.args.asks.now)))
