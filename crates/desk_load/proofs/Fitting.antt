-- The calls of a load may be made: their texts are UTF-8, and their nonces have at most 12 bytes.
use Rattle.std.proofs.Common.{◌≡◌, ◌≢◌, ◌<◌, ◌≤◌, ◌+◌, ◌^◌, ℕ, length, length-append, refl, ap, arith}
use Rattle.std.specs.Prelude.{codes, ◌++◌}
use Rattle.std.specs.Fmt.{decimal}
use Rattle.std.proofs.lemmas.Fmt.{decimal_nonempty, length-decimal-le}
use Rattle.std.specs.Str.{IsUtf8}
use lib.Utf8.{encode}
use Rattle.gnap_model.specs.declared.calls.Call.{Call}
use Rattle.gnap_model.specs.declared.calls.Call.TheVariants.{Lapse}
use Rattle.gnap_model.specs.declared.calls.Reply.{Reply}
use Rattle.signed_calls.specs.declared.signed.Signed.{Signed}
use Rattle.signed_calls.specs.Marks.{unmarked_lapse}
use Rattle.grant_machine.specs.Gnap.{GnapFits}
use Rattle.desk_load.specs.LoadCalls.{marked, unmarked, opening_call, question_about, rotation_of, cancellation_of}
use Rattle.desk_load.specs.Loads.{MayBeMade}

client_text : IsUtf8 (codes "c1")
unfolding encode
client_text = (codes "c1", (refl, refl))

server_text : IsUtf8 (codes "r1")
unfolding encode
server_text = (codes "r1", (refl, refl))

photos_text : IsUtf8 (codes "photos")
unfolding encode
photos_text = (codes "photos", (refl, refl))

-- no lapse, whatever its mark
called : (signed : Signed) → signed.call ≢ Lapse → signed ≢ unmarked_lapse
called signed other is = other (ap (λ (s : Signed). s.call) is)

nonce_fits : (grant place : ℕ) → grant < 2 ^ 32 → place < 10 → (0 < length (decimal grant ++ codes "-" ++ decimal place))
    × (length (decimal grant ++ codes "-" ++ decimal place) ≤ 64)
nonce_fits grant place small low =
    let some = decimal_nonempty grant (omega (arith, small)) in
    let front = length-decimal-le 10 grant (omega arith) (omega (arith, small)) (omega (arith, small)) in
    let back = length-decimal-le 1 place (omega arith) (omega (arith, low)) (omega (arith, low)) in
    let whole = length-append (decimal grant ++ codes "-") (decimal place) in
    let head = length-append (decimal grant) (codes "-") in
    let dash : length (codes "-") ≡ 1 = refl in
    (omega (arith, some, whole, head), omega (arith, front, back, whole, head, dash))

marked_may : (grant place : ℕ) (call : Call) → grant < 2 ^ 32 → place < 10 → GnapFits call → call ≢ Lapse → MayBeMade (marked grant place call)
marked_may grant place call small low fits other =
    let nonce = nonce_fits grant place small low in (
      record { call = fits; mark = (nonce.0, nonce.1, omega arith); lapse = λ is. absurd (other is) },
      called (marked grant place call) other,
    )

unmarked_may : (call : Call) → GnapFits call → call ≢ Lapse → MayBeMade (unmarked call)
unmarked_may call fits other = (record { call = fits; mark = tt; lapse = λ is. refl }, called (unmarked call) other)

pub opening_may : (grant place : ℕ) → grant < 2 ^ 32 → place < 10 → MayBeMade (marked grant place opening_call)
opening_may grant place small low =
    marked_may grant place opening_call small low (omega arith, (client_text, (((tt, (photos_text, tt)), tt), client_text, tt), tt)) (λ e. cc)

pub question_may : (reply : Reply) → MayBeMade (unmarked (question_about reply))
question_may reply = unmarked_may (question_about reply) (tt, (server_text, tt)) (λ e. cc)

pub rotation_may : (grant place : ℕ) (reply : Reply) → grant < 2 ^ 32 → place < 10 → MayBeMade (marked grant place (rotation_of reply))
rotation_may grant place reply small low = marked_may grant place (rotation_of reply) small low (tt, (client_text, tt)) (λ e. cc)

pub cancellation_may : (grant place : ℕ) (reply : Reply) → grant < 2 ^ 32 → place < 10 → MayBeMade (marked grant place (cancellation_of reply))
cancellation_may grant place reply small low = marked_may grant place (cancellation_of reply) small low (tt, client_text) (λ e. cc)
