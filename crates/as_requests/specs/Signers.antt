-- Who makes a call: whose signature a request has, and the mark of that signature.
use Rattle.std.specs.Prelude.{ℕ, Bool, true, false, Option, Some, None, option_map, IsUtf8, codes}
use Rattle.std.specs.Result.{result_ok}
use Rattle.bytes_and_lists.specs.declared.message.Message.{Message}
use Rattle.structured_fields.specs.Reading.{◌>>=◌}
use Rattle.message_signature.specs.declared.marks.SignatureMark.{SignatureMark}
use Rattle.message_signature.specs.Marked.{verified_marked}
use Rattle.gnap_model.specs.Common.{Text}
use Rattle.gnap_model.specs.declared.objects.Setup.{Setup}
use Rattle.gnap_objects.specs.declared.call_reading.CallKind.{CallKind}
use Rattle.gnap_objects.specs.declared.call_reading.CallKind.TheVariants.{Introspect}
use Rattle.signed_calls.specs.declared.signed.Mark.{Mark}
use Rattle.grant_machine.specs.Gnap.{MarkFits}
use Rattle.as_requests.specs.declared.signers.Signer.{Signer}
use Rattle.as_requests.specs.Rings.{secrets_of}

-- An introspection changes nothing, so a second use of its signature does no harm. All other calls need signatures that tell a mark.
abbrev pub needs_mark : CallKind → Bool
needs_mark Introspect = false
needs_mark _ = true

-- a signature's mark as the mark of a call
abbrev pub call_mark : SignatureMark → Mark
call_mark mark = record { nonce = mark.nonce; created = mark.created }

-- the signer with this key, where a mark is needed; and where none is
abbrev pub signer_with : Text → Bool → Option SignatureMark → Option Signer
signer_with key true mark = option_map (λ m. record { key = key; mark = Some (call_mark m) }) mark
signer_with key false mark = Some (record { key = key; mark = None })

-- Who signed the message to this server, with the tag `gnap` (RFC 9635, section 7.3.1). None where no signature passes, and where it hasn't the mark that is
-- needed.
abbrev pub signer : Setup → Bool → Message → ℕ → Option Signer
signer setup needed m moment = do
  signed ← result_ok (verified_marked m setup.base (secrets_of setup) moment (codes "gnap"))
  signer_with signed.0 needed signed.1

-- the machine takes calls of this key with this mark
abbrev pub SignerFits : Signer → Type 0
SignerFits signer = IsUtf8 signer.key × MarkFits signer.mark
