-- A call fits: its key is UTF-8, and its nonce has at most 20 bytes.
use Rattle.std.proofs.Common.{◌≡◌, ◌≢◌, ◌<◌, ◌≤◌, ◌^◌, ℕ, length, refl, sym, ap, subst, arith, Some}
use Rattle.std.specs.Prelude.{codes}
use Rattle.std.specs.Fmt.{decimal}
use Rattle.std.proofs.lemmas.Fmt.{decimal_nonempty, length-decimal-le}
use Rattle.std.specs.Str.{IsUtf8}
use lib.Utf8.{encode}
use Rattle.histories.specs.History.{last_moment}
use Rattle.gnap_model.specs.Common.{Text}
use Rattle.gnap_model.specs.declared.calls.Call.{Call}
use Rattle.gnap_model.specs.declared.calls.Call.TheVariants.{Lapse}
use Rattle.signed_calls.specs.declared.signed.Signed.{Signed}
use Rattle.signed_calls.specs.Marks.{unmarked_lapse}
use Rattle.grant_machine.specs.Gnap.{GnapFits, SignedFits}

client_text : IsUtf8 (codes "c1")
unfolding encode
client_text = (codes "c1", (refl, refl))

pub client_key : {key : Text} → key ≡ codes "c1" → IsUtf8 key
client_key is = subst IsUtf8 (sym is) client_text

-- a call that fits, with a number as its nonce
pub marked_fits : (nonce : Text) (call : Call) (created number : ℕ) → nonce ≡ decimal number → number < 2 ^ 64 → created ≤ last_moment
    → GnapFits call → call ≢ Lapse
    → let signed : Signed = record { mark = Some (record { nonce = nonce; created = created }); call = call } in
    SignedFits signed × (signed ≢ unmarked_lapse)
marked_fits nonce call created number nonce_is small in_time fits is_call =
    let long = ap length nonce_is in
    let some = decimal_nonempty number (omega (arith, small)) in
    let most = length-decimal-le 20 number (omega arith) (omega (arith, small)) (omega (arith, small)) in (
      record {
        call = fits;
        mark = (omega (arith, some, long), omega (arith, most, long), omega (arith, in_time));
        lapse = λ is. absurd (is_call is);
      },
      λ is. is_call (ap (λ (s : Signed). s.call) is),
    )
