-- A grant that goes on has at most four wrong references in its round.
use Rattle.std.proofs.Common.{ℕ, ◌≡◌, ◌≤◌, ◌<◌, ◌+◌, Bool, true, false, List, [], ◌∷◌, ◌++◌, reverse, refl, sym, ◌∙◌, ap, subst, arith, None}
use Rattle.std.specs.Prelude.{◌==◌, ◌||◌, if◌then◌else◌}
use Rattle.std.specs.List.{list_any, count_by}
use Rattle.std.proofs.lemmas.Bool.{eqb-true, or_parts}
use Rattle.std.proofs.lemmas.List.Folds.{list_any-append}
use Rattle.histories.specs.History.{Legal, notes_of}
use Rattle.gnap_model.specs.Limits.{wrong_limit}
use Rattle.gnap_laws.specs.Types.{Setup, RoundNote, Note}
use Rattle.gnap_model.specs.Notes.{Event, trail_of}
use Rattle.gnap_model.specs.declared.notes.Note.TheVariants.{Opened, Terms, Approved, Finalized, Wrong}
use Rattle.gnap_model.specs.Standing.{grant_state, state_after, state_change_in, has_ended, opening_in, is_end_of, is_round_of, is_wrong_of, round_trail, wrongs_of}
use Rattle.gnap_model.specs.Standing.GrantState.{IsPending, IsFinalized}
use Rattle.gnap_model.specs.Actions.{Action, Supply, outcome_of, terms_for, instance_of, retire}
use Rattle.gnap_model.specs.Actions.Action.{OpenAtOnce, OpenAsking, CollectDecision, WrongReference, LastWrongReference, ModifyAtOnce, ModifyAsking, RevokeToken}
use Rattle.gnap_model.specs.Answer.{supply_at}
use Rattle.gnap_model.specs.Legal.{grant_law, IsLegalPast}
use Rattle.gnap_model.specs.Common.{first_of}
use Rattle.gnap_model.proofs.LookUps.{any-reverse}
use Rattle.gnap_laws.proofs.NewestFirst.{legal_past, trail-back}
use Rattle.gnap_laws.proofs.NoteCounts.{count-cons, count-reverse, SkipsCommon, retire_skipped, grant_skipped, pend_skipped}
use Rattle.gnap_laws.proofs.Room.{HasRoom, chosen_with_room}

-- ---- wrong references among some notes

skips : (g : ℕ) → SkipsCommon (is_wrong_of g)
skips g = record { issued = λ t. refl; retired = λ s. refl; door = λ k v x. refl; pended = λ r. refl }

-- the notes add no more wrong references than they have
wrongs_more : (g : ℕ) (notes trail : List Note) → wrongs_of (notes ++ trail) g ≤ count_by (is_wrong_of g) notes + wrongs_of trail g
wrongs_more g [] trail = omega arith
wrongs_more g (n ∷ ns) trail =
    let k = count-cons (is_wrong_of g) n ns in
    let rest = wrongs_more g ns trail in at (is_round_of g n) rest
  where
    at : (b : Bool) → wrongs_of (ns ++ trail) g ≤ count_by (is_wrong_of g) ns + wrongs_of trail g
        → count_by (is_wrong_of g) (if b then [] else n ∷ round_trail (ns ++ trail) g) ≤ count_by (is_wrong_of g) (n ∷ ns) + wrongs_of trail g
    at true rest = omega arith
    at false rest =
        let k = count-cons (is_wrong_of g) n ns in
        let j = count-cons (is_wrong_of g) n (round_trail (ns ++ trail) g) in omega arith

-- ---- one entry

-- a grant that the action does not end has few wrong references after it
few_after : (supply : Supply) (trail : List Note) (action : Action) (g : ℕ) → HasRoom trail supply.now action → wrongs_of trail g < wrong_limit
    → list_any (is_end_of g) (outcome_of supply action).notes ≡ false
    → count_by (is_wrong_of g) (outcome_of supply action).notes + wrongs_of trail g < wrong_limit
few_after supply trail (OpenAtOnce o request) g room few goes_on =
    let k = grant_skipped (is_wrong_of g) supply o (Opened o ∷ Terms (terms_for o request) ∷ Approved o.grant [] ∷ []) request.asks request.single None
    (instance_of o) (skips g) in omega arith
few_after supply trail (OpenAsking o request modes) g room few goes_on =
    let k = pend_skipped (is_wrong_of g) supply o (Opened o ∷ Terms (terms_for o request) ∷ []) modes (instance_of o) (skips g) in omega arith
few_after supply trail (CollectDecision o w d asks) g room few goes_on =
    let k = grant_skipped (is_wrong_of g) supply o (Approved o.grant d.rights ∷ []) asks w.single (if w.subject then d.subject else None) None (skips g) in
    omega arith
few_after supply trail (WrongReference o) g room few goes_on = at (o.grant == g) refl
  where
    at : (b : Bool) → (o.grant == g) ≡ b → count_by (is_wrong_of g) (Wrong o.grant ∷ []) + wrongs_of trail g < wrong_limit
    at true e =
        let here : count_by (is_wrong_of g) (Wrong o.grant ∷ []) ≡ 1 = rw e refl in
        let same : wrongs_of trail g + 1 < wrong_limit = subst (λ k. wrongs_of trail k + 1 < wrong_limit) (eqb-true o.grant g e) room in omega arith
    at false e = let here : count_by (is_wrong_of g) (Wrong o.grant ∷ []) ≡ 0 = rw e refl in omega arith
few_after supply trail (LastWrongReference o) g room few goes_on =
    let other : (o.grant == g) ≡ false = (or_parts (o.grant == g) false goes_on).0 in
    let none : count_by (is_wrong_of g) (Wrong o.grant ∷ Finalized o.grant ∷ []) ≡ 0 = rw other refl in omega arith
few_after supply trail (ModifyAtOnce o consent retired request) g room few goes_on =
    let before : List Note = retire retired ++ Terms (terms_for o request) ∷ Approved o.grant consent ∷ [] in
    let b = retire_skipped (is_wrong_of g) retired (Terms (terms_for o request) ∷ Approved o.grant consent ∷ []) (skips g) in
    let k = grant_skipped (is_wrong_of g) supply o before request.asks request.single None None (skips g) in omega arith
few_after supply trail (ModifyAsking o retired request modes) g room few goes_on =
    let before : List Note = retire retired ++ Terms (terms_for o request) ∷ [] in
    let b = retire_skipped (is_wrong_of g) retired (Terms (terms_for o request) ∷ []) (skips g) in
    let k = pend_skipped (is_wrong_of g) supply o before modes None (skips g) in omega arith
few_after supply trail (RevokeToken t true) g room few goes_on = omega arith
few_after supply trail _ g room few goes_on = omega arith

-- ---- histories

few_wrongs : (rules : Setup) (past : List Event) (g : ℕ) → IsLegalPast rules past → list_any (is_end_of g) (trail_of past) ≡ false
    → wrongs_of (trail_of past) g < wrong_limit
few_wrongs rules [] g legal goes_on = omega arith
few_wrongs rules (e ∷ past) g legal goes_on =
    let trail = trail_of past in
    let supply = supply_at past e.moment e.draw in
    let chosen = chosen_with_room rules past e legal.0 in
    let why = chosen.why in
    let ends = or_parts (list_any (is_end_of g) (reverse e.notes)) (list_any (is_end_of g) trail)
    (sym (list_any-append (is_end_of g) (reverse e.notes) trail) ∙ goes_on) in
    let before = few_wrongs rules past g legal.1 ends.1 in
    let here : list_any (is_end_of g) (outcome_of supply why.action).notes ≡ false = ap (list_any (is_end_of g)) (sym why.notes)
    ∙ sym (any-reverse (is_end_of g) e.notes) ∙ ends.0 in
    let few = few_after supply trail why.action g chosen.room before here in
    let same : count_by (is_wrong_of g) (reverse e.notes)
    ≡ count_by (is_wrong_of g) (outcome_of supply why.action).notes = count-reverse (is_wrong_of g) e.notes ∙ ap (count_by (is_wrong_of g)) why.notes in
    let more = wrongs_more g (reverse e.notes) trail in omega arith

-- a grant that a note ended is not pending
pending_unended : (trail : List Note) (g now : ℕ) (round : RoundNote) → grant_state trail g now ≡ IsPending round → list_any (is_end_of g) trail ≡ false
pending_unended trail g now round = at (list_any (is_end_of g) trail)
  where
    at : (b : Bool) → (if b || has_ended (first_of (opening_in g) trail) now then IsFinalized else state_after (first_of (state_change_in g) trail) now)
        ≡ IsPending round → b ≡ false
    at true e = cc e
    at false e = refl

-- In a round that goes on at most four references were wrong.
pending_few : (rules : Setup) (past : List Event) (g now : ℕ) (round : RoundNote) → IsLegalPast rules past → grant_state (trail_of past) g now ≡ IsPending round
    → wrongs_of (trail_of past) g < wrong_limit
pending_few rules past g now round legal pending = few_wrongs rules past g legal (pending_unended (trail_of past) g now round pending)

-- The same of a history.
pub history_few : (rules : Setup) (h : List Event) (g now : ℕ) (round : RoundNote) → Legal grant_law rules h
    → grant_state (reverse (notes_of h)) g now ≡ IsPending round
    → wrongs_of (reverse (notes_of h)) g < wrong_limit
history_few rules h g now round legal pending =
    subst (λ (trail : List Note). wrongs_of trail g < wrong_limit) (trail-back h)
    (pending_few rules (reverse h) g now round (legal_past rules h legal)
    (subst (λ (trail : List Note). grant_state trail g now ≡ IsPending round) (sym (trail-back h)) pending))
