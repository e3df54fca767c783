-- A continuation value succeeds at most once, and is refused afterwards.
use Rattle.std.proofs.Common.{ℕ, ◌≡◌, ◌<◌, ◌≤◌, ◌+◌, ◌^◌, ◌⊎◌, Bool, true, List, [], ◌∷◌, ◌++◌, length, map, reverse, refl, sym, ◌∙◌, ap, subst, inl, inr, arith, length-append, Option, Some, None}
use Rattle.std.specs.Prelude.{◌&&◌, ◌||◌, if◌then◌else◌}
use Rattle.std.specs.List.{list_any}
use Rattle.std.proofs.lemmas.List.{reverse-append}
use Rattle.gnap_model.specs.Common.{Text, AreDistinct, first_of, is_text}
use Rattle.gnap_laws.specs.Types.{Setup, Ask, Modes, Call, Reply, OpeningNote, Note}
use Rattle.gnap_model.specs.declared.calls.Call.TheVariants.{Continue, Modify, Cancel}
use Rattle.gnap_model.specs.declared.objects.ErrorCode.TheVariants.{InvalidContinuation}
use Rattle.gnap_model.specs.declared.calls.Reply.TheVariants.{Error}
use Rattle.gnap_model.specs.Notes.{Event, trail_values, trail_of, now_at}
use Rattle.gnap_model.specs.declared.notes.Note.TheVariants.{Terms, Approved, Issued, Door, Pended, Finalized, Wrong}
use Rattle.gnap_model.specs.Standing.{door_in, is_end_of, named_grant}
use Rattle.gnap_model.specs.Actions.{Action, Supply, outcome_of, drawn_value, grant_outcome, pending_outcome, tokens_for, door_note, terms_for, retire, round_for}
use Rattle.gnap_model.specs.Actions.Action.{Refuse, OpenAtOnce, OpenAsking, RenewDoor, CollectDecision, WrongReference, LastWrongReference, RefuseAndFinalize, ModifyAtOnce, ModifyAsking, CancelGrant, RotateToken, RevokeToken}
use Rattle.gnap_model.specs.Answer.{answer, supply_at, action_of}
use Rattle.gnap_model.specs.Legal.{IsLegalPast}
use Rattle.gnap_laws.specs.Provenance.{presented_door, is_success, is_ending, succeeds, uses_up, IsOnce, IsRefusedAfter}
use Rattle.gnap_laws.proofs.Causes.{chosen, Names, Cause}
use Rattle.gnap_laws.proofs.Serials.{past_serialled, serialled_distinct}
use Rattle.gnap_model.proofs.TrailNotes.{is_text_is, grant_named}
use Rattle.gnap_laws.proofs.Doors.{IsSpent, spent_more, spent_now, spent_names_none}
use Rattle.std.proofs.lemmas.Option.{same_Some}
use Rattle.std.proofs.lemmas.Bool.{and_from, and_parts, eq-eqb, or_cases, or_left, or_right}

-- the notes give the grant a new door, or end it
abbrev pub RenewsOrEnds : ℕ → List Note → Type 0
RenewsOrEnds g new = ((w : Text) × (first_of (door_in g) new ≡ Some w)) ⊎ (list_any (is_end_of g) new ≡ true)

door_first : (g earliest : ℕ) (w : Text) (ns : List Note) → first_of (door_in g) (Door g w earliest ∷ ns) ≡ Some w
door_first g earliest w ns = rw (eq-eqb g g refl) refl

pub door_last : (g earliest : ℕ) (w : Text) (before : List Note) → first_of (door_in g) (reverse (before ++ Door g w earliest ∷ [])) ≡ Some w
door_last g earliest w before = ap (first_of (door_in g)) (reverse-append before (Door g w earliest ∷ [])) ∙ door_first g earliest w (reverse before)

grant_uses : (supply : Supply) (o : OpeningNote) (before : List Note) (asks : List Ask) (single : Bool) (subject instance : Option Text)
    → RenewsOrEnds o.grant (reverse (grant_outcome supply o before asks single subject instance).notes)
grant_uses supply o before asks single subject instance =
    inl (drawn_value supply _, door_last o.grant (supply.now + 5) (drawn_value supply _) (before ++ map Issued (tokens_for supply o asks 0)))

pend_uses : (supply : Supply) (o : OpeningNote) (before : List Note) (modes : Modes) (instance : Option Text)
    → RenewsOrEnds o.grant (reverse (pending_outcome supply o before modes instance).notes)
pend_uses supply o before modes instance =
    inl (
      drawn_value supply 0,
      ap (first_of (door_in o.grant)) (reverse-append before (door_note supply o 0 ∷ Pended (round_for supply o modes) ∷ []))
          ∙ door_first o.grant (supply.now + 5) (drawn_value supply 0) (reverse before),
    )

ends_itself : (g : ℕ) (ns : List Note) → list_any (is_end_of g) (Finalized g ∷ ns) ≡ true
ends_itself g ns = rw (eq-eqb g g refl) refl

-- what an action that succeeds or finalizes does to the grant that the call named
abbrev pub NamedRenewsOrEnds : List Note → ℕ → Text → List Note → Type 0
NamedRenewsOrEnds trail now v new = (o : OpeningNote) × (named_grant trail now v ≡ Some o) × RenewsOrEnds o.grant new

from_names : (trail : List Note) (now : ℕ) (call : Call) (o : OpeningNote) (v : Text) (new : List Note) → presented_door call ≡ Some v → Names trail now call o
    → RenewsOrEnds o.grant new → NamedRenewsOrEnds trail now v new
from_names trail now call o v new p names uses =
    let same : names.0 ≡ v = (let e = sym names.1 ∙ p in cc e) in
    (o, subst (λ (w : Text). named_grant trail now w ≡ Some o) same names.2, uses)

no_door : (call : Call) (v : Text) (P : Type 0) → presented_door call ≡ Some v → presented_door call ≡ None → P
no_door call v P p n = let e = sym p ∙ n in cc e

action_uses : (supply : Supply) (trail : List Note) (call : Call) (v : Text) (action : Action) → Cause trail supply.now call action
    → presented_door call ≡ Some v
    → (is_success (outcome_of supply action).reply || list_any is_ending (outcome_of supply action).notes) ≡ true
    → NamedRenewsOrEnds trail supply.now v (reverse (outcome_of supply action).notes)
action_uses supply trail call v (Refuse code) a p s = cc s
action_uses supply trail call v (OpenAtOnce o request) a p s = no_door call v _ p a.0
action_uses supply trail call v (OpenAsking o request modes) a p s = no_door call v _ p a.0
action_uses supply trail call v (RenewDoor o) a p s = from_names trail supply.now call o v (reverse (outcome_of supply (RenewDoor o)).notes) p a
    (inl (drawn_value supply 0, door_first o.grant (supply.now + 5) (drawn_value supply 0) []))
action_uses supply trail call v (CollectDecision o w d asks) a p s = from_names trail supply.now call o v
    (reverse (outcome_of supply (CollectDecision o w d asks)).notes) p a.0
    (grant_uses supply o (Approved o.grant d.rights ∷ []) asks w.single (if w.subject then d.subject else None) None)
action_uses supply trail call v (WrongReference o) a p s = cc s
action_uses supply trail call v (LastWrongReference o) a p s = from_names trail supply.now call o v (reverse (outcome_of supply (LastWrongReference o)).notes) p
    a.0 (inr (ends_itself o.grant (Wrong o.grant ∷ [])))
action_uses supply trail call v (RefuseAndFinalize o code) a p s = from_names trail supply.now call o v
    (reverse (outcome_of supply (RefuseAndFinalize o code)).notes) p a.0 (inr (ends_itself o.grant []))
action_uses supply trail call v (ModifyAtOnce o consent retired request) a p s = from_names trail supply.now call o v
    (reverse (outcome_of supply (ModifyAtOnce o consent retired request)).notes) p a.0
    (grant_uses supply o (retire retired ++ Terms (terms_for o request) ∷ Approved o.grant consent ∷ []) request.asks request.single None None)
action_uses supply trail call v (ModifyAsking o retired request modes) a p s = from_names trail supply.now call o v
    (reverse (outcome_of supply (ModifyAsking o retired request modes)).notes) p a.0
    (pend_uses supply o (retire retired ++ Terms (terms_for o request) ∷ []) modes None)
action_uses supply trail call v (CancelGrant o) a p s = from_names trail supply.now call o v (reverse (outcome_of supply (CancelGrant o)).notes) p a.0
    (inr (ends_itself o.grant []))
action_uses supply trail call v (RotateToken o t key) a p s = no_door call v _ p a.0
action_uses supply trail call v (RevokeToken t b) a p s = no_door call v _ p a.0
action_uses supply trail call v _ a p s = no_door call v _ p a

-- a call with a spent value is refused
refuses : (rules : Setup) (supply : Supply) (trail : List Note) (call : Call) (v : Text) → presented_door call ≡ Some v → named_grant trail supply.now v ≡ None
    → action_of rules supply trail call ≡ Refuse InvalidContinuation
refuses rules supply trail (Continue key value reference) v p n =
    let e : named_grant trail supply.now value ≡ None = subst (λ (w : Text). named_grant trail supply.now w ≡ None) (sym (same_Some value v p)) n in rw e refl
refuses rules supply trail (Modify key value request) v p n =
    let e : named_grant trail supply.now value ≡ None = subst (λ (w : Text). named_grant trail supply.now w ≡ None) (sym (same_Some value v p)) n in rw e refl
refuses rules supply trail (Cancel key value) v p n =
    let e : named_grant trail supply.now value ≡ None = subst (λ (w : Text). named_grant trail supply.now w ≡ None) (sym (same_Some value v p)) n in rw e refl
refuses rules supply trail _ v p n = cc p

-- ---- over histories

-- fewer than 2 ^ 64 values were drawn
abbrev pub IsShort : List Event → Type 0
IsShort past = length (trail_values (trail_of past)) < 2 ^ 64

trail-shorter : (xs ys : List Note) → length (trail_values ys) ≤ length (trail_values (xs ++ ys))
trail-shorter [] ys = omega arith
trail-shorter (x ∷ xs) ys = let h = trail-shorter xs ys in omega (arith, length-append {A = Text})

pub short_before : (e : Event) (past : List Event) → IsShort (e ∷ past) → IsShort past
short_before e past h = let k = trail-shorter (reverse e.notes) (trail_of past) in omega arith

pub distinct : (rules : Setup) (past : List Event) → IsLegalPast rules past → IsShort past → AreDistinct (trail_values (trail_of past))
distinct rules past legal short = serialled_distinct (trail_values (trail_of past)) short (past_serialled rules past legal)

use_spends : (rules : Setup) (e : Event) (past : List Event) (v : Text) → IsLegalPast rules (e ∷ past) → IsShort (e ∷ past) → uses_up v e ≡ true
    → IsSpent (trail_of (e ∷ past)) v
use_spends rules e past v legal short u =
    let supply = supply_at past e.moment e.draw in
    let why = chosen rules past e legal.0 in
    let action = why.action in
    let both = and_parts (is_text v (presented_door e.call)) (is_success e.reply || list_any is_ending e.notes) u in
    let p : presented_door e.call ≡ Some v = is_text_is v (presented_door e.call) both.0 in
    let so : (is_success (outcome_of supply action).reply || list_any is_ending (outcome_of supply action).notes) ≡ true
    = subst (λ (ns : List Note). (is_success (outcome_of supply action).reply || list_any is_ending ns) ≡ true) why.notes
    (subst (λ (r : Reply). (is_success r || list_any is_ending e.notes) ≡ true) why.reply both.1) in
    let used = action_uses supply (trail_of past) e.call v action why.cause p so in
    let uses : RenewsOrEnds used.0.grant (reverse e.notes) = subst (λ (ns : List Note). RenewsOrEnds used.0.grant (reverse ns)) (sym why.notes) used.2 in
    spent_now (reverse e.notes) (trail_of past) used.0.grant v (distinct rules (e ∷ past) legal short)
    (grant_named (trail_of past) supply.now v used.0 used.1).named_by uses

pub spent_after : (rules : Setup) (past : List Event) (v : Text) → IsLegalPast rules past → IsShort past → list_any (uses_up v) past ≡ true
    → IsSpent (trail_of past) v
spent_after rules [] v legal short u = cc u
spent_after rules (e ∷ past) v legal short u = elim (or_cases (uses_up v e) (list_any (uses_up v) past) u) [
  | inl here ↦ use_spends rules e past v legal short here
  | inr before ↦ spent_more (reverse e.notes) (trail_of past) v (distinct rules (e ∷ past) legal short)
      (spent_after rules past v legal.1 (short_before e past short) before)
]

refused_next : (rules : Setup) (e : Event) (past : List Event) (v : Text) → IsLegalPast rules (e ∷ past) → IsShort past → list_any (uses_up v) past ≡ true
    → presented_door e.call ≡ Some v
    → answer rules past e.moment e.draw e.call ≡ outcome_of (supply_at past e.moment e.draw) (Refuse InvalidContinuation)
refused_next rules e past v legal short u p =
    ap (outcome_of (supply_at past e.moment e.draw)) (refuses rules (supply_at past e.moment e.draw) (trail_of past) e.call v p
    (spent_names_none (trail_of past) (now_at past e.moment) v (spent_after rules past v legal.1 short u)))

-- A value that was used up is refused.
pub refused_after : (rules : Setup) (past : List Event) (v : Text) → IsLegalPast rules past → IsShort past → IsRefusedAfter v past
refused_after rules [] v legal short = tt
refused_after rules (e ∷ past) v legal short = (
  (λ u p. legal.0.reply ∙ ap (λ o. o.reply) (refused_next rules e past v legal (short_before e past short) u p)),
  refused_after rules past v legal.1 (short_before e past short),
)

success_uses : (v : Text) (past : List Event) → list_any (succeeds v) past ≡ true → list_any (uses_up v) past ≡ true
success_uses v [] u = u
success_uses v (e ∷ past) u = elim (or_cases (succeeds v e) (list_any (succeeds v) past) u) [
  | inl here ↦ or_left (uses_up v e) (list_any (uses_up v) past)
      (wider (is_text v (presented_door e.call)) (is_success e.reply) (list_any is_ending e.notes) here)
  | inr before ↦ or_right (uses_up v e) (list_any (uses_up v) past) (success_uses v past before)
]
  where
    wider : (a b c : Bool) → (a && b) ≡ true → (a && (b || c)) ≡ true
    wider a b c h = let both = and_parts a b h in and_from a (b || c) both.0 (or_left b c both.1)

-- At most one entry succeeds on a value.
pub once : (rules : Setup) (past : List Event) (v : Text) → IsLegalPast rules past → IsShort past → IsOnce v past
once rules [] v legal short = tt
once rules (e ∷ past) v legal short = (
  (λ here before.
      let both = and_parts (is_text v (presented_door e.call)) (is_success e.reply) here in
      let reply : e.reply ≡ Error InvalidContinuation = (refused_after rules (e ∷ past) v legal short).0 (success_uses v past before)
      (is_text_is v (presented_door e.call) both.0) in
      let no : is_success (Error InvalidContinuation) ≡ true = subst (λ (r : Reply). is_success r ≡ true) reply both.1 in cc no),
  once rules past v legal.1 (short_before e past short),
)
