-- At most 65,536 grants are live.
use Rattle.std.proofs.Common.{ℕ, ◌≡◌, ◌≤◌, ◌+◌, inl, inr, true, List, [], ◌∷◌, ◌++◌, reverse, refl, sym, ◌∙◌, ap, arith, None}
use Rattle.std.specs.Prelude.{not, if◌then◌else◌}
use Rattle.std.specs.List.{count_by}
use Rattle.std.proofs.lemmas.Bool.{not-true, not_from_false}
use Rattle.gnap_model.specs.Limits.{live_limit}
use Rattle.gnap_laws.specs.Types.{Call, Note}
use Rattle.gnap_model.specs.declared.notes.Note.TheVariants.{Opened, Terms, Approved}
use Rattle.gnap_model.specs.Standing.{grant_state, is_finalized, is_opening, is_live_opening, live_grants, next_grant}
use Rattle.gnap_model.specs.Actions.{Action, Supply, outcome_of, terms_for, instance_of, retire}
use Rattle.gnap_model.specs.Actions.Action.{OpenAtOnce, OpenAsking, CollectDecision, ModifyAtOnce, ModifyAsking, RevokeToken}
use Rattle.gnap_model.proofs.TrailNotes.{HasNote}
use Rattle.gnap_laws.proofs.AliveTokens.{false_from}
use Rattle.gnap_laws.proofs.Causes.{Cause}
use Rattle.gnap_laws.proofs.Sound.{IsSound, sound_note}
use Rattle.gnap_laws.proofs.NoteCounts.{count-append, count-reverse, count_weaker, SkipsCommon, retire_skipped, grant_skipped, pend_skipped}
use Rattle.gnap_laws.proofs.Room.{HasRoom}
use Rattle.gnap_laws.proofs.States.{silent_state, silent_or_goes_on, finalized_later}
use Rattle.gnap_model.specs.Notes.{first_serial}

-- ---- openings among the notes of an action

skips : SkipsCommon is_opening
skips = record { issued = λ t. refl; retired = λ s. refl; door = λ g v x. refl; pended = λ r. refl }

-- those that an action opens and those that were live
opened_within : (supply : Supply) (trail : List Note) (action : Action) → HasRoom trail supply.now action → live_grants trail supply.now ≤ live_limit
    → count_by is_opening (outcome_of supply action).notes + live_grants trail supply.now ≤ live_limit
opened_within supply trail (OpenAtOnce o request) room h =
    let few = room.0 in
    let k = grant_skipped is_opening supply o (Opened o ∷ Terms (terms_for o request) ∷ Approved o.grant [] ∷ []) request.asks request.single None
    (instance_of o) skips in omega arith
opened_within supply trail (OpenAsking o request modes) room h =
    let k = pend_skipped is_opening supply o (Opened o ∷ Terms (terms_for o request) ∷ []) modes (instance_of o) skips in omega arith
opened_within supply trail (CollectDecision o w d asks) room h =
    let k = grant_skipped is_opening supply o (Approved o.grant d.rights ∷ []) asks w.single (if w.subject then d.subject else None) None skips in omega arith
opened_within supply trail (ModifyAtOnce o consent retired request) room h =
    let before : List Note = retire retired ++ Terms (terms_for o request) ∷ Approved o.grant consent ∷ [] in
    let b = retire_skipped is_opening retired (Terms (terms_for o request) ∷ Approved o.grant consent ∷ []) skips in
    let k = grant_skipped is_opening supply o before request.asks request.single None None skips in omega arith
opened_within supply trail (ModifyAsking o retired request modes) room h =
    let before : List Note = retire retired ++ Terms (terms_for o request) ∷ [] in
    let b = retire_skipped is_opening retired (Terms (terms_for o request) ∷ []) skips in
    let k = pend_skipped is_opening supply o before modes None skips in omega arith
opened_within supply trail (RevokeToken t true) room h = omega arith
opened_within supply trail _ room h = omega arith

-- ---- one entry

opening_live : (trail : List Note) (now : ℕ) (n : Note) → is_live_opening trail now n ≡ true → is_opening n ≡ true
opening_live trail now (Opened o) e = refl
opening_live trail now _ e = e

-- a grant that is live after the notes was live before them
pub live_before : (supply : Supply) (trail : List Note) (call : Call) (action : Action) → IsSound trail → Cause trail supply.now call action → (n : Note)
    → HasNote trail n
    → is_live_opening (reverse (outcome_of supply action).notes ++ trail) supply.now n ≡ true → is_live_opening trail supply.now n ≡ true
live_before supply trail call action sound cause (Opened o) h e =
    elim (silent_or_goes_on supply trail call action o.grant cause (sound_note (next_grant trail) (first_serial trail) trail (Opened o) sound h)) [
      | inl silent ↦ ap (λ s. not (is_finalized s)) (sym (silent_state o.grant supply.now (reverse (outcome_of supply action).notes) trail silent)) ∙ e
      | inr goes_on ↦ ap not goes_on
    ]
live_before supply trail call action sound cause _ h e = e

pub grants_within : (supply : Supply) (trail : List Note) (call : Call) (action : Action) → IsSound trail → Cause trail supply.now call action
    → HasRoom trail supply.now action
    → live_grants trail supply.now ≤ live_limit → live_grants (reverse (outcome_of supply action).notes ++ trail) supply.now ≤ live_limit
grants_within supply trail call action sound cause room h =
    let notes : List Note = (outcome_of supply action).notes in
    let whole : List Note = reverse notes ++ trail in
    let parts = count-append (is_live_opening whole supply.now) (reverse notes) trail in
    let new = count_weaker (is_live_opening whole supply.now) is_opening (reverse notes) (λ n k e. opening_live whole supply.now n e) in
    let turned = count-reverse is_opening notes in
    let old = count_weaker (is_live_opening whole supply.now) (is_live_opening trail supply.now) trail (live_before supply trail call action sound cause) in
    let within = opened_within supply trail action room h in omega arith

-- ---- time

live_earlier : (trail : List Note) (now later : ℕ) → now ≤ later → (n : Note) → is_live_opening trail later n ≡ true → is_live_opening trail now n ≡ true
live_earlier trail now later le (Opened o) e =
    not_from_false (is_finalized (grant_state trail o.grant now))
    (false_from (is_finalized (grant_state trail o.grant now)) (is_finalized (grant_state trail o.grant later)) (finalized_later trail o.grant now later le)
    (not-true (is_finalized (grant_state trail o.grant later)) e))
live_earlier trail now later le _ e = e

-- Time makes no grant live.
pub grants_later : (trail : List Note) (now later : ℕ) → now ≤ later → live_grants trail later ≤ live_grants trail now
grants_later trail now later le = count_weaker (is_live_opening trail later) (is_live_opening trail now) trail (λ n h e. live_earlier trail now later le n e)
