use Rattle.std.proofs.Common.{subst}
use Rattle.histories.specs.History.{Legal}
use Rattle.grant_machine.specs.Gnap.{gnap}
use Rattle.desk_load.proofs.workers.take_back.Goals as goal

pub returns : goal.returns
returns g c =
    let h = c.close.ensures.history in
    (h.0, subst (λ r. Legal gnap r h.0) c.close.ensures.rules (g.met.C.Core.legal c.close.result h.0 h.1), h.2)
