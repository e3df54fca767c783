use Rattle.gnap_laws.proofs.WithinLimits.{history_within}
use Rattle.gnap_laws.proofs.laws.limits_hold.Goals as goal

pub returns : goal.returns
returns c = history_within
