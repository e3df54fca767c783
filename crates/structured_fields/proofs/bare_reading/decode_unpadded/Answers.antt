use Rattle.structured_fields.proofs.Base64.{unpadded_first}
use Rattle.structured_fields.proofs.bare_reading.decode_unpadded.Goals as goal

pub returns-in-Ok : goal.returns-in-Ok
returns-in-Ok c = rw c.from_vec.ensures (unpadded_first c.args.text.now c.in-Ok.v.items c.in-Ok.ensures.ok c.in-Ok.ensures.bytes)
