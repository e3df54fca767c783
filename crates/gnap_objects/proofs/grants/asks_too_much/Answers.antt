use Rattle.std.proofs.Common.{◌∙◌, ap, nat_lt}
use Rattle.gnap_objects.proofs.AskedSizes.{nat_lt-capped}
use Rattle.gnap_objects.proofs.grants.asks_too_much.Goals as goal

pub returns : goal.returns
returns c = ap (nat_lt 4096) c.asked_size.ensures ∙ nat_lt-capped _
