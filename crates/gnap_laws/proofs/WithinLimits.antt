-- A legal history keeps the limits.
use Rattle.std.proofs.Common.{ℕ, ◌≡◌, ◌≤◌, List, [], ◌∷◌, ◌++◌, length, reverse, sym, ◌∙◌, ap, subst, arith}
use Rattle.std.proofs.lemmas.List.{reverse-reverse}
use Rattle.histories.specs.History.{Legal, notes_of, now}
use Rattle.gnap_model.specs.Limits.{live_limit}
use Rattle.gnap_laws.specs.Types.{Setup, Note}
use Rattle.gnap_model.specs.Notes.{Event, trail_of, now_at}
use Rattle.gnap_model.specs.Standing.{live_grants, live_tokens}
use Rattle.gnap_model.specs.Answer.{supply_at}
use Rattle.gnap_model.specs.Legal.{grant_law, IsLegalPast}
use Rattle.gnap_laws.specs.Laws.{IsWithinLimits}
use Rattle.gnap_laws.proofs.Causes.{chosen}
use Rattle.gnap_laws.proofs.Sound.{past_sound}
use Rattle.gnap_laws.proofs.NewestFirst.{legal_past, trail-back, now-back}
use Rattle.gnap_laws.proofs.Room.{chosen_with_room}
use Rattle.gnap_laws.proofs.LiveGrants.{grants_within, grants_later}
use Rattle.gnap_laws.proofs.LiveTokens.{PendingRetires, pending_after, tokens_within, tokens_later}

past_pending : (rules : Setup) (past : List Event) → IsLegalPast rules past → PendingRetires (trail_of past)
past_pending rules [] legal = λ t r h e. absurd h
past_pending rules (e ∷ past) legal =
    let why = chosen rules past e legal.0 in
    subst (λ (ns : List Note). PendingRetires (reverse ns ++ trail_of past)) (sym why.notes)
    (pending_after (supply_at past e.moment e.draw) (trail_of past) e.call why.action (past_sound rules past legal.1) (past_pending rules past legal.1)
    why.cause)

now_at-least : (past : List Event) (moment : ℕ) → now_at past 0 ≤ now_at past moment
now_at-least [] moment = omega arith
now_at-least (e ∷ past) moment = omega arith

pub past_within : (rules : Setup) (past : List Event) (moment : ℕ) → IsLegalPast rules past → now_at past 0 ≤ moment → IsWithinLimits (trail_of past) moment
past_within rules [] moment legal le = record { grants = omega arith; tokens = omega arith }
past_within rules (e ∷ past) moment legal le =
    let trail : List Note = trail_of past in
    let at = now_at past e.moment in
    let supply = supply_at past e.moment e.draw in
    let chosen = chosen_with_room rules past e legal.0 in
    let why = chosen.why in
    let sound = past_sound rules past legal.1 in
    let before = past_within rules past at legal.1 (now_at-least past e.moment) in
    let grants : live_grants (reverse e.notes ++ trail) at ≤ live_limit =
    subst (λ (ns : List Note). live_grants (reverse ns ++ trail) at ≤ live_limit) (sym why.notes)
    (grants_within supply trail e.call why.action sound why.cause chosen.room before.grants) in
    let tokens : length (live_tokens (reverse e.notes ++ trail) at) ≤ live_limit =
    subst (λ (ns : List Note). length (live_tokens (reverse ns ++ trail) at) ≤ live_limit) (sym why.notes)
    (tokens_within supply trail e.call why.action sound (past_pending rules past legal.1) why.cause chosen.room before.tokens) in
    let from : at ≤ moment = omega arith in
    let fewer_grants = grants_later (reverse e.notes ++ trail) at moment from in
    let fewer_tokens = tokens_later (reverse e.notes ++ trail) at moment from in
    record { grants = omega arith; tokens = omega arith }

-- A past keeps the limits at the moment of its next entry.
pub next_within : (rules : Setup) (past : List Event) (moment : ℕ) → IsLegalPast rules past → IsWithinLimits (trail_of past) (now_at past moment)
next_within rules past moment legal = past_within rules past (now_at past moment) legal (now_at-least past moment)

-- So does a history.
pub history_within : (rules : Setup) (h : List Event) (moment : ℕ) → Legal grant_law rules h → now h 0 ≤ moment → IsWithinLimits (reverse (notes_of h)) moment
history_within rules h moment legal le =
    let same : now h 0 ≡ now_at (reverse h) 0 = ap (λ (x : List Event). now x 0) (sym (reverse-reverse h)) ∙ now-back (reverse h) 0 in
    subst (λ (trail : List Note). IsWithinLimits trail moment) (trail-back h) (past_within rules (reverse h) moment (legal_past rules h legal) (omega arith))

-- and at the moment of its next entry
pub step_within : (rules : Setup) (h : List Event) (moment : ℕ) → Legal grant_law rules h → IsWithinLimits (reverse (notes_of h)) (now h moment)
step_within rules h moment legal =
    let same : now h moment ≡ now_at (reverse h) moment = ap (λ (x : List Event). now x moment) (sym (reverse-reverse h)) ∙ now-back (reverse h) moment in
    subst (λ (trail : List Note). IsWithinLimits trail (now h moment)) (trail-back h)
    (subst (IsWithinLimits (trail_of (reverse h))) (sym same) (next_within rules (reverse h) moment (legal_past rules h legal)))
