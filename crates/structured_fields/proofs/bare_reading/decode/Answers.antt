use Rattle.structured_fields.proofs.Base64.{decoded_first, decoded_unpadded}
use Rattle.structured_fields.proofs.bare_reading.decode.Goals as goal

pub returns-in-Ok : goal.returns-in-Ok
returns-in-Ok c = rw c.from_vec.ensures (decoded_first c.args.text.now c.in-Ok.v.items c.in-Ok.ensures.ok c.in-Ok.ensures.bytes)

pub returns-in-Err-DecodeError : goal.returns-in-Err-DecodeError
returns-in-Err-DecodeError c = rw (decoded_unpadded c.args.text.now _ (rw c.in-Err-DecodeError.field-0-is at c.in-Err-DecodeError.ensures.err))
    c.decode_unpadded.ensures
