use Rattle.std.proofs.Common.{refl}
use Rattle.client_scripts.specs.Carrying.{unasked, sent}
use Rattle.client_scripts.proofs.carrying.carry_out.Goals as goal

pub returns-in-Ok : goal.returns-in-Ok
returns-in-Ok g c = sent c.call.new.client c.in-Ok.request c.in-Ok.ensures c.send.result (rw c.as_slice.ensures.value at c.send.ensures)

pub returns-in-Err : goal.returns-in-Err
returns-in-Err g c = unasked c.in-Err.fault c.in-Err.ensures refl
