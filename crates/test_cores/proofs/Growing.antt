-- A core that took a call more.
use Rattle.std.proofs.Common.{ℕ, ◌<◌, ◌+◌, ◌^◌, List, [], ◌∷◌, ◌++◌, length, length-append, arith}
use Rattle.histories.specs.History.{entry_of}
use Rattle.histories.specs.Steps.{Answers}
use Rattle.gnap_model.specs.declared.objects.Setup.{Setup}
use Rattle.gnap_model.specs.declared.calls.Reply.{Reply}
use Rattle.signed_calls.specs.declared.signed.Signed.{Signed}
use Rattle.grant_machine.specs.Gnap.{GnapEntry, gnap}
use Rattle.test_cores.specs.Taken.{HasTaken}

pub short_enough : (stands : List GnapEntry → Type 0) (many : ℕ) → many < 2 ^ 58 → HasTaken stands many → (h : List GnapEntry) × stands h × (length h < 2 ^ 58)
short_enough stands many few taken = let most = taken.2 in (taken.0, taken.1, omega (arith, most, few))

pub takes_more : (rules : Setup) (stands after : List GnapEntry → Type 0) (many moment : ℕ) (draw : List ℕ) (signed : Signed) (reply : Reply)
    → HasTaken stands many
    → ((h : List GnapEntry) → stands h → Answers gnap rules h moment draw signed reply after) → HasTaken after (many + 1)
takes_more rules stands after many moment draw signed reply taken answers =
    let h = taken.0 in
    let most = taken.2 in
    let e : GnapEntry = entry_of gnap rules h 0 moment draw signed in
    let long = length-append h (e ∷ []) in
    (h ++ e ∷ [], (answers h taken.1).stands_now 0, omega (arith, long, most))
