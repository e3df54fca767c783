-- What holds of a request that asks for the rotation of a token to a key.
use Rattle.std.specs.Prelude.{◌≡◌, ℕ, Option, Some}
use Rattle.bytes_and_lists.specs.declared.message.Message.{Message}
use Rattle.signature_laws.specs.Rotation.{AreKeysOf}
use Rattle.gnap_model.specs.Common.{Text}
use Rattle.gnap_model.specs.declared.objects.Setup.{Setup}
use Rattle.gnap_model.specs.declared.calls.Call.TheVariants.{Rotate}
use Rattle.signed_calls.specs.declared.signed.Mark.{Mark}
use Rattle.as_requests.specs.declared.desk_calls.RequestStep.TheVariants.{Ask}
use Rattle.as_requests.specs.Rings.{secrets_of}
use Rattle.as_requests.specs.DeskCalls.{desk_call}

-- The key that makes the call signed the message, and the key to which the token is to move signed it too, over the first signature (RFC 9635, section 6.1.1).
abbrev pub IsSignedByBoth : Type 0
IsSignedByBoth = (setup : Setup) (m : Message) (moment : ℕ) (mark : Option Mark) (key value new_key : Text)
    → desk_call setup m moment ≡ Ask (record { mark = mark; call = Rotate key value (Some new_key) })
    → AreKeysOf m setup.base (secrets_of setup) moment (record { old = key; new = new_key })
