-- What the verifying of both signatures answers: the two keys, or the first fault (RFC 9635, section 6.1.1).
use Rattle.std.specs.Prelude.{ℕ, List, Result, Ok}
use Rattle.bytes_and_lists.specs.declared.message.Message.{Message}
use Rattle.message_signature.specs.Verified.{signature_fields, tagged_in, judged}
use Rattle.rotation_checks.specs.declared.fault.RotationFault.{RotationFault}
use Rattle.rotation_checks.specs.declared.verifying.RotatedKeys.{RotatedKeys}
use Rattle.rotation_checks.specs.Faults.{◌>>=◌, in_first, in_second, must_chain}
use Rattle.rotation_checks.specs.SecondSignature.{first_tag, second_tag, judged_again, is_chained}

-- The old key, which made the first signature, and the new key, which made the second over the first; or the first fault.
unfoldable pub rotated_keys : Message → List ℕ → List (List ℕ × List ℕ) → ℕ → Result RotatedKeys RotationFault
rotated_keys m base ring now = do
  fields ← in_first (signature_fields m)
  first ← in_first (tagged_in first_tag fields)
  old ← in_first (judged m base ring now first)
  second ← in_second (tagged_in second_tag fields)
  new ← in_second (judged_again m base ring now second)
  _ ← must_chain (is_chained first.label second.list)
  Ok (record { old = old; new = new })
