-- A rotation that names a key: that key signs too, over the first signature (RFC 9635, sections 6.1.1 and 7.3.1.1).
use Rattle.std.specs.Prelude.{ℕ, Bool, true, false, Option, Some, None, Result, Ok, Err}
use Rattle.std.specs.Str.{bytes_eq}
use Rattle.bytes_and_lists.specs.declared.message.Message.{Message}
use Rattle.rotation_checks.specs.declared.fault.RotationFault.{RotationFault}
use Rattle.rotation_checks.specs.declared.verifying.RotatedKeys.{RotatedKeys}
use Rattle.rotation_checks.specs.Rotated.{rotated_keys}
use Rattle.gnap_model.specs.Common.{Text}
use Rattle.gnap_model.specs.declared.objects.Setup.{Setup}
use Rattle.gnap_model.specs.declared.calls.Call.{Call}
use Rattle.gnap_model.specs.declared.calls.Call.TheVariants.{Rotate}
use Rattle.as_requests.specs.Rings.{secrets_of}

-- the key that a rotation names, to which the token is to move
abbrev pub named_key : Call → Option Text
named_key (Rotate key value new_key) = new_key
named_key _ = None

-- both signatures pass, and this key made the second
abbrev pub is_new_key : Text → Result RotatedKeys RotationFault → Bool
is_new_key key (Ok keys) = bytes_eq keys.new key
is_new_key key (Err fault) = false

-- The key that is named signed the message to this server too, over the first signature. Where none is named, nothing is asked.
abbrev pub is_signed_by_named : Setup → Message → ℕ → Option Text → Bool
is_signed_by_named setup m moment None = true
is_signed_by_named setup m moment (Some key) = is_new_key key (rotated_keys m setup.base (secrets_of setup) moment)
