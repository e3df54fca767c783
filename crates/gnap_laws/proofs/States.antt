-- What notes and time change of the states of grants.
use Rattle.std.proofs.Common.{ℕ, ◌≡◌, ◌≤◌, ◌<◌, ◌⊎◌, inl, inr, Bool, true, false, List, [], ◌∷◌, ◌++◌, length, map, reverse, refl, sym, ◌∙◌, ap, subst, arith, Option, Some, None}
use Rattle.std.specs.Option.{option_or}
use Rattle.std.specs.Prelude.{◌*◌, ◌==◌, ◌||◌, nat_le, if◌then◌else◌}
use Rattle.std.specs.List.{list_any}
use Rattle.std.proofs.lemmas.Bool.{eqb-true, false_from_ne_true, leb-true, le-leb, not-true, or_cases, or_left, or_right}
use Rattle.std.proofs.lemmas.List.Folds.{list_any-append}
use Rattle.gnap_model.specs.Common.{Text, first_of, some_if}
use Rattle.gnap_laws.specs.Types.{Ask, Modes, Call, OpeningNote, TokenNote, Note}
use Rattle.gnap_model.specs.declared.notes.Note.TheVariants.{Opened, Terms, Approved, Issued, Pended, Finalized, Wrong}
use Rattle.gnap_model.specs.Standing.{GrantState, StateChange, grant_state, state_after, has_ended, is_finalized, is_approved, is_end_of, opening_in, state_change_in, next_grant}
use Rattle.gnap_model.specs.Standing.GrantState.{IsPending, IsFinalized}
use Rattle.gnap_model.specs.Standing.StateChange.{ToPending, ToApproved}
use Rattle.gnap_model.specs.Actions.{Action, Supply, outcome_of, grant_outcome, pending_outcome, tokens_for, door_note, terms_for, instance_of, retire, round_for}
use Rattle.gnap_model.specs.Actions.Action.{Refuse, ShowToken, ShowInactive, LapseAction, OpenAtOnce, OpenAsking, ShowRound, ShowHandle, TakeDecision, RenewDoor, CollectDecision, WrongReference, LastWrongReference, RefuseAndFinalize, ModifyAtOnce, ModifyAsking, CancelGrant, RotateToken, RevokeToken}
use Rattle.gnap_laws.proofs.Causes.{Names, Cause}
use Rattle.gnap_model.proofs.LookUps.{first_of-append}
use Rattle.gnap_model.proofs.TrailNotes.{EachNote, each-append, each-reverse, grant_named}

-- ---- notes that say nothing of a grant's state

pub record IsSilent (grant : ℕ) (notes : List Note) : Type 0 where
  pub opening : first_of (opening_in grant) notes ≡ None
  pub change : first_of (state_change_in grant) notes ≡ None
  pub unended : list_any (is_end_of grant) notes ≡ false

state_by : Bool → Option OpeningNote → Option StateChange → ℕ → GrantState
state_by ended opening change now = if ended || has_ended opening now then IsFinalized else state_after change now

-- so they leave it as it was
pub silent_state : (grant now : ℕ) (notes trail : List Note) → IsSilent grant notes → grant_state (notes ++ trail) grant now ≡ grant_state trail grant now
unfolding state_by
silent_state grant now notes trail silent =
    let ended : list_any (is_end_of grant) (notes ++ trail) ≡ list_any (is_end_of grant) trail =
    list_any-append (is_end_of grant) notes trail ∙ ap (λ b. b || list_any (is_end_of grant) trail) silent.unended in
    let opening : first_of (opening_in grant) (notes ++ trail) ≡ first_of (opening_in grant) trail =
    first_of-append (opening_in grant) notes trail ∙ ap (λ r. option_or r (first_of (opening_in grant) trail)) silent.opening in
    let change : first_of (state_change_in grant) (notes ++ trail) ≡ first_of (state_change_in grant) trail =
    first_of-append (state_change_in grant) notes trail ∙ ap (λ r. option_or r (first_of (state_change_in grant) trail)) silent.change in
    ap (λ b. state_by b (first_of (opening_in grant) (notes ++ trail)) (first_of (state_change_in grant) (notes ++ trail)) now) ended
    ∙ ap (λ o. state_by (list_any (is_end_of grant) trail) o (first_of (state_change_in grant) (notes ++ trail)) now) opening
    ∙ ap (λ c. state_by (list_any (is_end_of grant) trail) (first_of (opening_in grant) trail) c now) change

-- ---- notes that say something of one grant's state at most

abbrev pub IsOn : ℕ → Note → Type 0
IsOn grant (Opened o) = o.grant ≡ grant
IsOn grant (Approved g c) = g ≡ grant
IsOn grant (Pended r) = r.grant ≡ grant
IsOn grant (Finalized g) = g ≡ grant
IsOn grant _ = Unit {0}

AreSilent : ℕ → Note → Type 0
AreSilent other note = (opening_in other note ≡ None) × (state_change_in other note ≡ None) × (is_end_of other note ≡ false)

note_silent : (grant other : ℕ) (note : Note) → (grant == other) ≡ false → IsOn grant note → AreSilent other note
unfolding AreSilent
note_silent grant other (Opened o) e on = (ap (λ b. some_if b o) (ap (λ g. g == other) on ∙ e), refl, refl)
note_silent grant other (Approved g c) e on = (refl, ap (λ b. some_if b ToApproved) (ap (λ k. k == other) on ∙ e), refl)
note_silent grant other (Pended r) e on = (refl, ap (λ b. some_if b (ToPending r)) (ap (λ k. k == other) on ∙ e), refl)
note_silent grant other (Finalized g) e on = (refl, refl, ap (λ k. k == other) on ∙ e)
note_silent grant other _ e on = (refl, refl, refl)

silent_list : (grant other : ℕ) (notes : List Note) → (grant == other) ≡ false → EachNote (IsOn grant) notes → IsSilent other notes
unfolding AreSilent
silent_list grant other [] e on = record { opening = refl; change = refl; unended = refl }
silent_list grant other (n ∷ ns) e on =
    let here = note_silent grant other n e on.0 in
    let rest = silent_list grant other ns e on.1 in
    record {
      opening = ap (λ r. option_or r (first_of (opening_in other) ns)) here.0 ∙ rest.opening;
      change = ap (λ r. option_or r (first_of (state_change_in other) ns)) here.1 ∙ rest.change;
      unended = ap (λ b. b || list_any (is_end_of other) ns) here.2 ∙ rest.unended;
    }

-- the newest first
silent_on : (grant other : ℕ) (notes : List Note) → (grant == other) ≡ false → EachNote (IsOn grant) notes → IsSilent other (reverse notes)
silent_on grant other notes e on = silent_list grant other (reverse notes) e (each-reverse (IsOn grant) notes on)

issued_on : (grant : ℕ) (ts : List TokenNote) → EachNote (IsOn grant) (map Issued ts)
issued_on grant [] = tt
issued_on grant (t ∷ ts) = (tt, issued_on grant ts)

retire_on : (grant : ℕ) (ts : List TokenNote) (rest : List Note) → EachNote (IsOn grant) rest → EachNote (IsOn grant) (retire ts ++ rest)
retire_on grant [] rest h = h
retire_on grant (t ∷ ts) rest h = (tt, retire_on grant ts rest h)

grant_on : (supply : Supply) (o : OpeningNote) (before : List Note) (asks : List Ask) (single : Bool) (subject instance : Option Text)
    → EachNote (IsOn o.grant) before
    → EachNote (IsOn o.grant) (grant_outcome supply o before asks single subject instance).notes
grant_on supply o before asks single subject instance h =
    each-append (IsOn o.grant) (before ++ map Issued (tokens_for supply o asks 0)) (door_note supply o (2 * length asks) ∷ [])
    (each-append (IsOn o.grant) before (map Issued (tokens_for supply o asks 0)) h (issued_on o.grant (tokens_for supply o asks 0))) (tt, tt)

pend_on : (supply : Supply) (o : OpeningNote) (before : List Note) (modes : Modes) (instance : Option Text) → EachNote (IsOn o.grant) before
    → EachNote (IsOn o.grant) (pending_outcome supply o before modes instance).notes
pend_on supply o before modes instance h = each-append (IsOn o.grant) before (door_note supply o 0 ∷ Pended (round_for supply o modes) ∷ []) h (tt, (refl, tt))

-- ---- one entry

-- the grant whose state an action changes
abbrev pub changed : Action → Option OpeningNote
changed (OpenAtOnce o request) = Some o
changed (OpenAsking o request modes) = Some o
changed (CollectDecision o w d asks) = Some o
changed (LastWrongReference o) = Some o
changed (RefuseAndFinalize o code) = Some o
changed (ModifyAtOnce o consent retired request) = Some o
changed (ModifyAsking o retired request modes) = Some o
changed (CancelGrant o) = Some o
changed _ = None

abbrev pub IsAnother : ℕ → Option OpeningNote → Type 0
IsAnother grant None = Unit {0}
IsAnother grant (Some o) = (o.grant == grant) ≡ false

nothing : (grant : ℕ) → IsSilent grant []
nothing grant = record { opening = refl; change = refl; unended = refl }

-- the notes of an action say nothing of the state of another grant
pub silent_others : (supply : Supply) (action : Action) (other : ℕ) → IsAnother other (changed action)
    → IsSilent other (reverse (outcome_of supply action).notes)
silent_others supply (TakeDecision r rights request) other e = record { opening = refl; change = refl; unended = refl }
silent_others supply (RenewDoor o) other e = record { opening = refl; change = refl; unended = refl }
silent_others supply (WrongReference o) other e = record { opening = refl; change = refl; unended = refl }
silent_others supply (RotateToken o t key) other e = record { opening = refl; change = refl; unended = refl }
silent_others supply (RevokeToken t false) other e = record { opening = refl; change = refl; unended = refl }
silent_others supply (OpenAtOnce o request) other e = silent_on o.grant other (outcome_of supply (OpenAtOnce o request)).notes e
    (grant_on supply o (Opened o ∷ Terms (terms_for o request) ∷ Approved o.grant [] ∷ []) request.asks request.single None (instance_of o)
    (refl, (tt, (refl, tt))))
silent_others supply (OpenAsking o request modes) other e = silent_on o.grant other (outcome_of supply (OpenAsking o request modes)).notes e
    (pend_on supply o (Opened o ∷ Terms (terms_for o request) ∷ []) modes (instance_of o) (refl, (tt, tt)))
silent_others supply (CollectDecision o w d asks) other e = silent_on o.grant other (outcome_of supply (CollectDecision o w d asks)).notes e
    (grant_on supply o (Approved o.grant d.rights ∷ []) asks w.single (if w.subject then d.subject else None) None (refl, tt))
silent_others supply (LastWrongReference o) other e = silent_on o.grant other (Wrong o.grant ∷ Finalized o.grant ∷ []) e (tt, (refl, tt))
silent_others supply (RefuseAndFinalize o code) other e = silent_on o.grant other (Finalized o.grant ∷ []) e (refl, tt)
silent_others supply (ModifyAtOnce o consent retired request) other e = silent_on o.grant other
    (outcome_of supply (ModifyAtOnce o consent retired request)).notes e
    (grant_on supply o (retire retired ++ Terms (terms_for o request) ∷ Approved o.grant consent ∷ []) request.asks request.single None None
    (retire_on o.grant retired (Terms (terms_for o request) ∷ Approved o.grant consent ∷ []) (tt, (refl, tt))))
silent_others supply (ModifyAsking o retired request modes) other e = silent_on o.grant other (outcome_of supply (ModifyAsking o retired request modes)).notes e
    (pend_on supply o (retire retired ++ Terms (terms_for o request) ∷ []) modes None
    (retire_on o.grant retired (Terms (terms_for o request) ∷ []) (tt, tt)))
silent_others supply (CancelGrant o) other e = silent_on o.grant other (Finalized o.grant ∷ []) e (refl, tt)
silent_others supply _ other e = nothing other

-- a grant that is opened is another than those that were opened before
pub opened_is_another : (trail : List Note) (o : OpeningNote) (grant : ℕ) → o.grant ≡ next_grant trail → grant < next_grant trail → (o.grant == grant) ≡ false
opened_is_another trail o grant e low = false_from_ne_true (o.grant == grant) (λ h. let same : o.grant ≡ grant = eqb-true o.grant grant h in omega arith)

-- An entry says nothing of the state of a grant that was opened before, or the grant goes on before the entry.
pub silent_or_goes_on : (supply : Supply) (trail : List Note) (call : Call) (action : Action) (grant : ℕ) → Cause trail supply.now call action
    → grant < next_grant trail
    → IsSilent grant (reverse (outcome_of supply action).notes) ⊎ (is_finalized (grant_state trail grant supply.now) ≡ false)
silent_or_goes_on supply trail call action grant cause low = at action cause
  where
    named : (action : Action) (o : OpeningNote) → changed action ≡ Some o → Names trail supply.now call o
        → IsSilent grant (reverse (outcome_of supply action).notes) ⊎ (is_finalized (grant_state trail grant supply.now) ≡ false)
    named action o is names = by (o.grant == grant) refl
      where
        by : (b : Bool) → (o.grant == grant) ≡ b
            → IsSilent grant (reverse (outcome_of supply action).notes) ⊎ (is_finalized (grant_state trail grant supply.now) ≡ false)
        by false e = inl (silent_others supply action grant (subst (IsAnother grant) (sym is) e))
        by true e = inr (subst (λ g. is_finalized (grant_state trail g supply.now) ≡ false) (eqb-true o.grant grant e)
            (not-true (is_finalized (grant_state trail o.grant supply.now)) (grant_named trail supply.now names.0 o names.2).goes_on))

    at : (action : Action) → Cause trail supply.now call action
        → IsSilent grant (reverse (outcome_of supply action).notes) ⊎ (is_finalized (grant_state trail grant supply.now) ≡ false)
    at (OpenAtOnce o request) a = inl (silent_others supply (OpenAtOnce o request) grant (opened_is_another trail o grant a.2 low))
    at (OpenAsking o request modes) a = inl (silent_others supply (OpenAsking o request modes) grant (opened_is_another trail o grant a.2 low))
    at (CollectDecision o w d asks) a = named (CollectDecision o w d asks) o refl a.0
    at (LastWrongReference o) a = named (LastWrongReference o) o refl a.0
    at (RefuseAndFinalize o code) a = named (RefuseAndFinalize o code) o refl a.0
    at (ModifyAtOnce o consent retired request) a = named (ModifyAtOnce o consent retired request) o refl a.0
    at (ModifyAsking o retired request modes) a = named (ModifyAsking o retired request modes) o refl a.0
    at (CancelGrant o) a = named (CancelGrant o) o refl a.0
    at (Refuse code) a = inl (silent_others supply (Refuse code) grant tt)
    at (ShowToken access t) a = inl (silent_others supply (ShowToken access t) grant tt)
    at ShowInactive a = inl (silent_others supply ShowInactive grant tt)
    at LapseAction a = inl (silent_others supply LapseAction grant tt)
    at (ShowRound r w o) a = inl (silent_others supply (ShowRound r w o) grant tt)
    at (ShowHandle r) a = inl (silent_others supply (ShowHandle r) grant tt)
    at (TakeDecision r rights request) a = inl (silent_others supply (TakeDecision r rights request) grant tt)
    at (RenewDoor o) a = inl (silent_others supply (RenewDoor o) grant tt)
    at (WrongReference o) a = inl (silent_others supply (WrongReference o) grant tt)
    at (RotateToken o t key) a = inl (silent_others supply (RotateToken o t key) grant tt)
    at (RevokeToken t was_retired) a = inl (silent_others supply (RevokeToken t was_retired) grant tt)

-- ---- time

later_too : (end now later : ℕ) → now ≤ later → nat_le end now ≡ true → nat_le end later ≡ true
later_too end now later le e = let k = leb-true end now e in le-leb end later (omega arith)

ended_later : (opening : Option OpeningNote) (now later : ℕ) → now ≤ later → has_ended opening now ≡ true → has_ended opening later ≡ true
ended_later None now later le e = cc e
ended_later (Some o) now later le e = later_too o.end now later le e

over_later : (change : Option StateChange) (now later : ℕ) → now ≤ later → is_finalized (state_after change now) ≡ true
    → is_finalized (state_after change later) ≡ true
over_later None now later le e = cc e
over_later (Some ToApproved) now later le e = cc e
over_later (Some (ToPending r)) now later le e = at (nat_le r.over now) (nat_le r.over later) (later_too r.over now later le) e
  where
    at : (a b : Bool) → (a ≡ true → b ≡ true) → is_finalized (if a then IsFinalized else IsPending r) ≡ true
        → is_finalized (if b then IsFinalized else IsPending r) ≡ true
    at true true more h = refl
    at true false more h = let no = more refl in cc no
    at false b more h = cc h

approved_before : (change : Option StateChange) (now later : ℕ) → is_approved (state_after change later) ≡ true → is_approved (state_after change now) ≡ true
approved_before None now later e = refl
approved_before (Some ToApproved) now later e = refl
approved_before (Some (ToPending r)) now later e = at (nat_le r.over later) e
  where
    at : (b : Bool) → is_approved (if b then IsFinalized else IsPending r) ≡ true → is_approved (state_after (Some (ToPending r)) now) ≡ true
    at true h = cc h
    at false h = cc h

over_or : (b : Bool) (s : GrantState) → (b ≡ true) ⊎ (is_finalized s ≡ true) → is_finalized (if b then IsFinalized else s) ≡ true
over_or true s h = refl
over_or false s (inl e) = cc e
over_or false s (inr e) = e

over_cases : (b : Bool) (s : GrantState) → is_finalized (if b then IsFinalized else s) ≡ true → (b ≡ true) ⊎ (is_finalized s ≡ true)
over_cases true s e = inl refl
over_cases false s e = inr e

ended_or_later : (ended : Bool) (opening : Option OpeningNote) (now later : ℕ) → now ≤ later → (ended || has_ended opening now) ≡ true
    → (ended || has_ended opening later) ≡ true
ended_or_later ended opening now later le e = elim (or_cases ended (has_ended opening now) e) [
  | inl k ↦ or_left ended (has_ended opening later) k
  | inr k ↦ or_right ended (has_ended opening later) (ended_later opening now later le k)
]

-- A finalized grant stays finalized.
pub finalized_later : (trail : List Note) (grant now later : ℕ) → now ≤ later → is_finalized (grant_state trail grant now) ≡ true
    → is_finalized (grant_state trail grant later) ≡ true
finalized_later trail grant now later le e =
    let ended = list_any (is_end_of grant) trail in
    let opening = first_of (opening_in grant) trail in
    let change = first_of (state_change_in grant) trail in
    over_or (ended || has_ended opening later) (state_after change later)
    (elim (over_cases (ended || has_ended opening now) (state_after change now) e) [
      | inl k ↦ inl (ended_or_later ended opening now later le k)
      | inr k ↦ inr (over_later change now later le k)
    ])

-- An approved grant was approved before, as far as no note came in between.
pub approved_earlier : (trail : List Note) (grant now later : ℕ) → now ≤ later → is_approved (grant_state trail grant later) ≡ true
    → is_approved (grant_state trail grant now) ≡ true
approved_earlier trail grant now later le e =
    at (list_any (is_end_of grant) trail || has_ended (first_of (opening_in grant) trail) now)
    (list_any (is_end_of grant) trail || has_ended (first_of (opening_in grant) trail) later)
    (ended_or_later (list_any (is_end_of grant) trail) (first_of (opening_in grant) trail) now later le) e
  where
    at : (a b : Bool) → (a ≡ true → b ≡ true) → is_approved (if b then IsFinalized else state_after (first_of (state_change_in grant) trail) later) ≡ true
        → is_approved (if a then IsFinalized else state_after (first_of (state_change_in grant) trail) now) ≡ true
    at a true more h = cc h
    at true false more h = let no = more refl in cc no
    at false false more h = approved_before (first_of (state_change_in grant) trail) now later h
