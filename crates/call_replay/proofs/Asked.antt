-- What a line asks, from its call and its mark.
use Rattle.std.proofs.Common.{◌≡◌, ◌≤◌, ℕ, List, length, true, ap, arith}
use Rattle.std.specs.Prelude.{nat_lt, nat_le}
use Rattle.std.specs.List.{list_all}
use Rattle.std.specs.declared.option.Option.{Option}
use Rattle.std.specs.declared.option.Option.TheVariants.{Some}
use Rattle.std.proofs.lemmas.Bool.{and_parts, leb-true, ltb-true}
use Rattle.histories.specs.History.{last_moment}
use Rattle.message_signature.specs.Marks.{has_nonce_length, longest_nonce, is_nonce, is_nonce_byte}
use Rattle.gnap_model.specs.declared.calls.Call.{Call}
use Rattle.gnap_objects.specs.CallReading.{MachineTakes}
use Rattle.signed_calls.specs.declared.signed.Mark.{Mark}
use Rattle.signed_calls.specs.declared.signed.Signed.{Signed}
use Rattle.grant_machine.specs.Gnap.{MarkFits}
use Rattle.call_replay.specs.declared.call_lines.LineStep.TheVariants.{Ask}
use Rattle.call_replay.specs.Asked.{IsAsked}

-- a mark whose nonce has 1 to 64 bytes, and whose moment is in time
pub mark_fits : (nonce : List ℕ) (created : ℕ) → has_nonce_length nonce ≡ true → created ≤ last_moment
    → MarkFits (Some (record { nonce = nonce; created = created }))
mark_fits nonce created sized in_time =
    let both = and_parts (nat_lt 0 (length nonce)) (nat_le (length nonce) longest_nonce) sized in
    (ltb-true 0 (length nonce) both.0, leb-true (length nonce) longest_nonce both.1, omega (arith, in_time))

-- the length of a nonce that can be signed
pub nonce_length : (nonce : List ℕ) → is_nonce nonce ≡ true → has_nonce_length nonce ≡ true
nonce_length nonce is = (and_parts (has_nonce_length nonce) (list_all is_nonce_byte nonce) is).0

-- a call that was read, with such a mark
pub is_asked : (moment : ℕ) (draw : List ℕ) (mark : Option Mark) (call : Call) → moment ≤ last_moment → MachineTakes call → MarkFits mark
    → IsAsked (Ask moment draw (record { mark = mark; call = call }))
is_asked moment draw mark call in_time takes fits =
    (in_time, record { call = (takes.0, takes.1); mark = fits; lapse = λ is. absurd (takes.2 is) }, λ is. takes.2 (ap (λ (s : Signed). s.call) is))
