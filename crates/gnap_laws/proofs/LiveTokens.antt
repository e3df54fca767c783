-- At most 65,536 tokens are live.
use Rattle.std.proofs.Common.{ℕ, ◌≡◌, ◌≤◌, ◌<◌, ◌+◌, inl, inr, Bool, true, false, List, [], ◌∷◌, ◌++◌, length, map, reverse, refl, sym, ◌∙◌, ap, subst, arith, Option, Some, None}
use Rattle.std.specs.Option.{option_or}
use Rattle.std.specs.Prelude.{◌*◌, ◌==◌, ◌&&◌, ◌||◌, not, nat_le, nat_lt, is_some, if◌then◌else◌}
use Rattle.std.specs.List.{count_by, list_any, filter_map}
use Rattle.std.proofs.lemmas.List.{reverse-append}
use Rattle.std.proofs.lemmas.List.Folds.{list_any-append}
use Rattle.std.proofs.lemmas.Bool.{and_from, and_parts, eqb-true, eq-eqb, false_from_ne_true, lt-ltb, ltb-true, not-true, not_from_false, or_left, or_parts, or_right, cases_Bool}
use Rattle.std.proofs.Math.Bool.{or-false}
use Rattle.gnap_model.specs.Common.{Text, first_of, some_if}
use Rattle.gnap_model.specs.Limits.{live_limit}
use Rattle.gnap_laws.specs.Types.{Right, Ask, Modes, GrantRequest, Call, OpeningNote, RoundNote, TokenNote, Note}
use Rattle.gnap_model.specs.Notes.{first_serial}
use Rattle.gnap_model.specs.declared.notes.Why.TheVariants.{ByModification}
use Rattle.gnap_model.specs.declared.notes.Note.TheVariants.{Opened, Terms, Approved, Issued, Pended, Finalized, Wrong, Retired}
use Rattle.gnap_model.specs.Standing.{grant_state, has_ended, opening_in, is_finalized, is_approved, is_end_of, state_change_in, next_grant, is_retirement, is_replacement, is_live, is_managed, live_tokens, named_grant, token_in}
use Rattle.gnap_model.specs.Standing.GrantState.{IsPending, IsFinalized}
use Rattle.gnap_model.specs.Standing.StateChange.{ToPending, ToApproved}
use Rattle.gnap_model.specs.Change.{tokens_of}
use Rattle.gnap_model.specs.Actions.{Action, Supply, outcome_of, grant_outcome, pending_outcome, token_for, tokens_for, door_note, terms_for, instance_of, retire, round_for}
use Rattle.gnap_model.specs.Actions.Action.{Refuse, ShowToken, ShowInactive, LapseAction, OpenAtOnce, OpenAsking, ShowRound, ShowHandle, TakeDecision, RenewDoor, CollectDecision, WrongReference, LastWrongReference, RefuseAndFinalize, ModifyAtOnce, ModifyAsking, CancelGrant, RotateToken, RevokeToken}
use Rattle.gnap_model.proofs.LookUps.{first_of-append, any-reverse}
use Rattle.gnap_model.proofs.TrailNotes.{round_change, HasNote, EachNote, each-append, each-reverse, each_of, opening_noted, grant_named, managed_issued}
use Rattle.gnap_laws.proofs.AliveTokens.{grant_retires, pend_retires, not_replaced, retire_any, tokens_has}
use Rattle.gnap_laws.proofs.Causes.{Cause}
use Rattle.gnap_laws.proofs.Came.{note_cases}
use Rattle.gnap_laws.proofs.Sound.{IsSound, sound_note}
use Rattle.gnap_laws.proofs.NoteCounts.{count-cons, count-append, count-reverse, count_weaker, count_less, issues, issued_counted, filter_counted}
use Rattle.gnap_laws.proofs.Room.{HasRoom}
use Rattle.gnap_laws.proofs.States.{IsSilent, changed, IsAnother, silent_state, silent_others, opened_is_another, approved_earlier}

-- ---- while a grant is pending, its tokens are retired

abbrev pub PendingRetires : List Note → Type 0
PendingRetires trail = (t : TokenNote) (r : RoundNote) → HasNote trail (Issued t) → first_of (state_change_in t.grant) trail ≡ Some (ToPending r)
    → list_any (is_retirement t.serial) trail ≡ true

-- ---- what an entry does to a token that was issued before

-- nothing is said of its grant's state; or it is retired; or its grant ends
pub data Fate (trail : List Note) (notes : List Note) (t : TokenNote) : Type 0 where
  Untouched : IsSilent t.grant notes → Fate trail notes t
  IsRetired : list_any (is_retirement t.serial) (notes ++ trail) ≡ true → Fate trail notes t
  GrantEnds : list_any (is_end_of t.grant) notes ≡ true → first_of (state_change_in t.grant) notes ≡ None → Fate trail notes t

-- a modification retires each token of its grant
modified_retired : (trail : List Note) (now : ℕ) (o : OpeningNote) (v : Text) (t : TokenNote) → HasNote trail (Issued t) → named_grant trail now v ≡ Some o
    → o.grant ≡ t.grant
    → (list_any (λ u. u.serial == t.serial) (tokens_of trail now o) || list_any (is_retirement t.serial) trail) ≡ true
modified_retired trail now o v t issued named same = elim (cases_Bool (list_any (is_retirement t.serial) trail)) [
  | inl retired ↦ or_right (list_any (λ u. u.serial == t.serial) (tokens_of trail now o)) (list_any (is_retirement t.serial) trail) retired
  | inr kept ↦ or_left (list_any (λ u. u.serial == t.serial) (tokens_of trail now o)) (list_any (is_retirement t.serial) trail)
      (any-reverse (λ u. u.serial == t.serial) (filter_map (token_in (λ u. (u.grant == o.grant) && is_managed trail now u)) trail)
      ∙ tokens_has (λ u. u.serial == t.serial) (λ u. (u.grant == o.grant) && is_managed trail now u) trail t issued
      (and_from (t.grant == o.grant) (is_managed trail now t) (eq-eqb t.grant o.grant (sym same))
      (and_from (not (list_any (is_replacement t.serial) trail)) (not (is_finalized (grant_state trail t.grant now)))
      (ap not (not_replaced t.serial trail kept))
      (subst (λ g. not (is_finalized (grant_state trail g now)) ≡ true) same (grant_named trail now v o named).goes_on)))
      (eq-eqb t.serial t.serial refl))
]

retired_whole : (serial : ℕ) (notes trail : List Note) (b : Bool) → list_any (is_retirement serial) notes ≡ b
    → (b || list_any (is_retirement serial) trail) ≡ true
    → list_any (is_retirement serial) (reverse notes ++ trail) ≡ true
retired_whole serial notes trail b e h =
    list_any-append (is_retirement serial) (reverse notes) trail
    ∙ ap (λ c. c || list_any (is_retirement serial) trail) (any-reverse (is_retirement serial) notes ∙ e) ∙ h

before_retires : (serial : ℕ) (retired : List TokenNote) (rest : List Note) → list_any (is_retirement serial) rest ≡ false
    → list_any (is_retirement serial) (retire retired ++ rest) ≡ list_any (λ t. t.serial == serial) retired
before_retires serial retired rest none =
    list_any-append (is_retirement serial) (retire retired) rest ∙ ap (λ b. list_any (is_retirement serial) (retire retired) || b) none
    ∙ or-false (list_any (is_retirement serial) (retire retired)) ∙ retire_any serial retired

at_once_retires : (supply : Supply) (trail : List Note) (o : OpeningNote) (consent : List Right) (retired : List TokenNote) (request : GrantRequest) (v : Text)
    (t : TokenNote)
    → HasNote trail (Issued t) → named_grant trail supply.now v ≡ Some o → retired ≡ tokens_of trail supply.now o → o.grant ≡ t.grant
    → list_any (is_retirement t.serial) (reverse (outcome_of supply (ModifyAtOnce o consent retired request)).notes ++ trail) ≡ true
at_once_retires supply trail o consent retired request v t issued named is same =
    let rest : List Note = Terms (terms_for o request) ∷ Approved o.grant consent ∷ [] in
    retired_whole t.serial (outcome_of supply (ModifyAtOnce o consent retired request)).notes trail
    (list_any (λ u. u.serial == t.serial) (tokens_of trail supply.now o))
    (grant_retires supply o (retire retired ++ rest) request.asks request.single None None t.serial ∙ before_retires t.serial retired rest refl
    ∙ ap (list_any (λ u. u.serial == t.serial)) is)
    (modified_retired trail supply.now o v t issued named same)

asking_retires : (supply : Supply) (trail : List Note) (o : OpeningNote) (retired : List TokenNote) (request : GrantRequest) (modes : Modes) (v : Text)
    (t : TokenNote)
    → HasNote trail (Issued t) → named_grant trail supply.now v ≡ Some o → retired ≡ tokens_of trail supply.now o → o.grant ≡ t.grant
    → list_any (is_retirement t.serial) (reverse (outcome_of supply (ModifyAsking o retired request modes)).notes ++ trail) ≡ true
asking_retires supply trail o retired request modes v t issued named is same =
    let rest : List Note = Terms (terms_for o request) ∷ [] in
    retired_whole t.serial (outcome_of supply (ModifyAsking o retired request modes)).notes trail
    (list_any (λ u. u.serial == t.serial) (tokens_of trail supply.now o))
    (pend_retires supply o (retire retired ++ rest) modes None t.serial ∙ before_retires t.serial retired rest refl
    ∙ ap (list_any (λ u. u.serial == t.serial)) is)
    (modified_retired trail supply.now o v t issued named same)

pub fate : (supply : Supply) (trail : List Note) (call : Call) (action : Action) (t : TokenNote) → IsSound trail → PendingRetires trail
    → Cause trail supply.now call action → HasNote trail (Issued t)
    → Fate trail (reverse (outcome_of supply action).notes) t
fate supply trail call action t sound pending cause issued = at action cause
  where
    low : t.grant < next_grant trail
    low = (sound_note (next_grant trail) (first_serial trail) trail (Issued t) sound issued).1

    other : (action : Action) → IsAnother t.grant (changed action) → Fate trail (reverse (outcome_of supply action).notes) t
    other action e = Untouched (silent_others supply action t.grant e)

    -- the action is on another grant, or on the token's
    on : (action : Action) (o : OpeningNote) → changed action ≡ Some o → (o.grant ≡ t.grant → Fate trail (reverse (outcome_of supply action).notes) t)
        → Fate trail (reverse (outcome_of supply action).notes) t
    on action o is own = by (o.grant == t.grant) refl
      where
        by : (b : Bool) → (o.grant == t.grant) ≡ b → Fate trail (reverse (outcome_of supply action).notes) t
        by true e = own (eqb-true o.grant t.grant e)
        by false e = other action (subst (IsAnother t.grant) (sym is) e)

    ends : (o : OpeningNote) (notes : List Note) → o.grant ≡ t.grant → first_of (state_change_in t.grant) notes ≡ None
        → Fate trail (Finalized o.grant ∷ notes) t
    ends o notes e none = GrantEnds (or_left (o.grant == t.grant) (list_any (is_end_of t.grant) notes) (eq-eqb o.grant t.grant e)) none

    at : (action : Action) → Cause trail supply.now call action → Fate trail (reverse (outcome_of supply action).notes) t
    at (OpenAtOnce o request) a = other (OpenAtOnce o request) (opened_is_another trail o t.grant a.2 low)
    at (OpenAsking o request modes) a = other (OpenAsking o request modes) (opened_is_another trail o t.grant a.2 low)
    at (CollectDecision o w d asks) a = on (CollectDecision o w d asks) o refl (λ same.
        let notes : List Note = reverse (outcome_of supply (CollectDecision o w d asks)).notes in
        let round : first_of (state_change_in t.grant) trail ≡ Some (ToPending a.1.0) =
        subst (λ g. first_of (state_change_in g) trail ≡ Some (ToPending a.1.0)) same (round_change trail o.grant supply.now a.1.0 a.1.1) in
        IsRetired (list_any-append (is_retirement t.serial) notes trail
        ∙ or_right (list_any (is_retirement t.serial) notes) (list_any (is_retirement t.serial) trail) (pending t a.1.0 issued round)))
    at (LastWrongReference o) a = on (LastWrongReference o) o refl (λ same. ends o (Wrong o.grant ∷ []) same refl)
    at (RefuseAndFinalize o code) a = on (RefuseAndFinalize o code) o refl (λ same. ends o [] same refl)
    at (CancelGrant o) a = on (CancelGrant o) o refl (λ same. ends o [] same refl)
    at (ModifyAtOnce o consent retired request) a = on (ModifyAtOnce o consent retired request) o refl
        (λ same. IsRetired (at_once_retires supply trail o consent retired request a.0.0 t issued a.0.2 a.2 same))
    at (ModifyAsking o retired request modes) a = on (ModifyAsking o retired request modes) o refl
        (λ same. IsRetired (asking_retires supply trail o retired request modes a.0.0 t issued a.0.2 a.2 same))
    at (Refuse code) a = other (Refuse code) tt
    at (ShowToken access u) a = other (ShowToken access u) tt
    at ShowInactive a = other ShowInactive tt
    at LapseAction a = other LapseAction tt
    at (ShowRound r w o) a = other (ShowRound r w o) tt
    at (ShowHandle r) a = other (ShowHandle r) tt
    at (TakeDecision r rights request) a = other (TakeDecision r rights request) tt
    at (RenewDoor o) a = other (RenewDoor o) tt
    at (WrongReference o) a = other (WrongReference o) tt
    at (RotateToken o u key) a = other (RotateToken o u key) tt
    at (RevokeToken u was_retired) a = other (RevokeToken u was_retired) tt

-- ---- so a token that is live after the entry was live before it

-- a live token is not retired, before its end, and of an approved grant
pub record LiveParts (trail : List Note) (now : ℕ) (t : TokenNote) : Type 0 where
  pub kept : list_any (is_retirement t.serial) trail ≡ false
  pub early : nat_lt now t.until ≡ true
  pub approved : is_approved (grant_state trail t.grant now) ≡ true

pub live_parts : (trail : List Note) (now : ℕ) (t : TokenNote) → is_live trail now t ≡ true → LiveParts trail now t
live_parts trail now t e =
    let outer = and_parts (not (list_any (is_retirement t.serial) trail) && nat_lt now t.until) (is_approved (grant_state trail t.grant now)) e in
    let inner = and_parts (not (list_any (is_retirement t.serial) trail)) (nat_lt now t.until) outer.0 in
    record { kept = not-true (list_any (is_retirement t.serial) trail) inner.0; early = inner.1; approved = outer.1 }

live_from : (trail : List Note) (now : ℕ) (t : TokenNote) → LiveParts trail now t → is_live trail now t ≡ true
live_from trail now t parts =
    and_from (not (list_any (is_retirement t.serial) trail) && nat_lt now t.until) (is_approved (grant_state trail t.grant now))
    (and_from (not (list_any (is_retirement t.serial) trail)) (nat_lt now t.until) (not_from_false (list_any (is_retirement t.serial) trail) parts.kept)
    parts.early) parts.approved

ended_unapproved : (notes trail : List Note) (g now : ℕ) → list_any (is_end_of g) notes ≡ true → is_approved (grant_state (notes ++ trail) g now) ≡ false
ended_unapproved notes trail g now e =
    let whole : list_any (is_end_of g) (notes ++ trail) ≡ true = list_any-append (is_end_of g) notes trail
    ∙ or_left (list_any (is_end_of g) notes) (list_any (is_end_of g) trail) e in
    rw whole refl

live_was : (trail notes : List Note) (now : ℕ) (t : TokenNote) → Fate trail notes t → is_live (notes ++ trail) now t ≡ true → is_live trail now t ≡ true
live_was trail notes now t (Untouched silent) e =
    let parts = live_parts (notes ++ trail) now t e in
    live_from trail now t (record {
      kept = (or_parts (list_any (is_retirement t.serial) notes) (list_any (is_retirement t.serial) trail)
          (sym (list_any-append (is_retirement t.serial) notes trail) ∙ parts.kept)).1;
      early = parts.early;
      approved = ap is_approved (sym (silent_state t.grant now notes trail silent)) ∙ parts.approved;
    })
live_was trail notes now t (IsRetired retired) e = let parts = live_parts (notes ++ trail) now t e in let no = sym retired ∙ parts.kept in cc no
live_was trail notes now t (GrantEnds ended none) e =
    let parts = live_parts (notes ++ trail) now t e in let no = sym parts.approved ∙ ended_unapproved notes trail t.grant now ended in cc no

-- ---- and a pending grant's tokens stay retired

unchanged : (trail notes : List Note) (t : TokenNote) (r : RoundNote) → PendingRetires trail → HasNote trail (Issued t)
    → first_of (state_change_in t.grant) notes ≡ None
    → first_of (state_change_in t.grant) (notes ++ trail) ≡ Some (ToPending r) → list_any (is_retirement t.serial) (notes ++ trail) ≡ true
unchanged trail notes t r pending issued none e =
    let before : first_of (state_change_in t.grant) trail ≡ Some (ToPending r) =
    ap (λ c. option_or c (first_of (state_change_in t.grant) trail)) (sym none) ∙ sym (first_of-append (state_change_in t.grant) notes trail) ∙ e in
    list_any-append (is_retirement t.serial) notes trail
    ∙ or_right (list_any (is_retirement t.serial) notes) (list_any (is_retirement t.serial) trail) (pending t r issued before)

pending_kept : (trail notes : List Note) (t : TokenNote) (r : RoundNote) → PendingRetires trail → HasNote trail (Issued t) → Fate trail notes t
    → first_of (state_change_in t.grant) (notes ++ trail) ≡ Some (ToPending r) → list_any (is_retirement t.serial) (notes ++ trail) ≡ true
pending_kept trail notes t r pending issued (IsRetired retired) e = retired
pending_kept trail notes t r pending issued (Untouched silent) e = unchanged trail notes t r pending issued silent.change e
pending_kept trail notes t r pending issued (GrantEnds ended none) e = unchanged trail notes t r pending issued none e

-- ---- a token is issued where its grant is approved, or is approved with it

abbrev IsIssuedApproved : List Note → Note → Type 0
IsIssuedApproved whole (Issued t) = (r : RoundNote) → first_of (state_change_in t.grant) whole ≡ Some (ToPending r) → ⊥
IsIssuedApproved whole _ = Unit {0}

issued_changes : (g : ℕ) (ts : List TokenNote) → EachNote (λ n. state_change_in g n ≡ None) (map Issued ts)
issued_changes g [] = tt
issued_changes g (t ∷ ts) = (refl, issued_changes g ts)

none_changes : (g : ℕ) (ns : List Note) → EachNote (λ n. state_change_in g n ≡ None) ns → first_of (state_change_in g) ns ≡ None
none_changes g [] h = refl
none_changes g (n ∷ ns) h = ap (λ c. option_or c (first_of (state_change_in g) ns)) h.0 ∙ none_changes g ns h.1

grant_approves : (supply : Supply) (o : OpeningNote) (before : List Note) (asks : List Ask) (single : Bool) (subject instance : Option Text) (trail : List Note)
    → first_of (state_change_in o.grant) (reverse before) ≡ Some ToApproved
    → first_of (state_change_in o.grant) (reverse (grant_outcome supply o before asks single subject instance).notes ++ trail) ≡ Some ToApproved
grant_approves supply o before asks single subject instance trail e =
    let look = state_change_in o.grant in
    let tokens : List Note = map Issued (tokens_for supply o asks 0) in
    let last : List Note = door_note supply o (2 * length asks) ∷ [] in
    let turned : reverse ((before ++ tokens) ++ last) ≡ door_note supply o (2 * length asks)
    ∷ reverse (before ++ tokens) = reverse-append (before ++ tokens) last in
    let inner : reverse (before ++ tokens) ≡ reverse tokens ++ reverse before = reverse-append before tokens in
    let none : first_of look (reverse tokens)
    ≡ None = none_changes o.grant (reverse tokens) (each-reverse (λ n. look n ≡ None) tokens (issued_changes o.grant (tokens_for supply o asks 0))) in
    first_of-append look (reverse ((before ++ tokens) ++ last)) trail
    ∙ ap (λ (ns : List Note). option_or (first_of look ns) (first_of look trail)) turned
    ∙ ap (λ (ns : List Note). option_or (first_of look ns) (first_of look trail)) inner
    ∙ ap (λ c. option_or c (first_of look trail))
    (first_of-append look (reverse tokens) (reverse before) ∙ ap (λ c. option_or c (first_of look (reverse before))) none ∙ e)

approved_is : (g : ℕ) (rest : List Note) (consent : List Right) → first_of (state_change_in g) (Approved g consent ∷ rest) ≡ Some ToApproved
approved_is g rest consent = ap (λ b. option_or (some_if b ToApproved) (first_of (state_change_in g) rest)) (eq-eqb g g refl)

modify_approves : (o : OpeningNote) (request : GrantRequest) (consent : List Right) (retired : List TokenNote)
    → first_of (state_change_in o.grant) (reverse (retire retired ++ Terms (terms_for o request) ∷ Approved o.grant consent ∷ [])) ≡ Some ToApproved
modify_approves o request consent retired =
    let turned : reverse (retire retired ++ Terms (terms_for o request) ∷ Approved o.grant consent ∷ []) ≡ Approved o.grant consent
    ∷ Terms (terms_for o request) ∷ reverse (retire retired) =
    reverse-append (retire retired) (Terms (terms_for o request) ∷ Approved o.grant consent ∷ []) in
    ap (first_of (state_change_in o.grant)) turned ∙ approved_is o.grant (Terms (terms_for o request) ∷ reverse (retire retired)) consent

tokens_approved : (whole : List Note) (supply : Supply) (o : OpeningNote) (asks : List Ask) (k : ℕ) → first_of (state_change_in o.grant) whole ≡ Some ToApproved
    → EachNote (IsIssuedApproved whole) (map Issued (tokens_for supply o asks k))
tokens_approved whole supply o [] k e = tt
tokens_approved whole supply o (ask ∷ asks) k e = ((λ r pended. let no = sym e ∙ pended in cc no), tokens_approved whole supply o asks (k + 2) e)

grant_approved : (whole : List Note) (supply : Supply) (o : OpeningNote) (before : List Note) (asks : List Ask) (single : Bool) (subject instance : Option Text)
    → first_of (state_change_in o.grant) whole ≡ Some ToApproved → EachNote (IsIssuedApproved whole) before
    → EachNote (IsIssuedApproved whole) (grant_outcome supply o before asks single subject instance).notes
grant_approved whole supply o before asks single subject instance e h =
    each-append (IsIssuedApproved whole) (before ++ map Issued (tokens_for supply o asks 0)) (door_note supply o (2 * length asks) ∷ [])
    (each-append (IsIssuedApproved whole) before (map Issued (tokens_for supply o asks 0)) h (tokens_approved whole supply o asks 0 e)) (tt, tt)

retire_approved : (whole : List Note) (ts : List TokenNote) (rest : List Note) → EachNote (IsIssuedApproved whole) rest
    → EachNote (IsIssuedApproved whole) (retire ts ++ rest)
retire_approved whole [] rest h = h
retire_approved whole (t ∷ ts) rest h = (tt, retire_approved whole ts rest h)

pend_approved : (whole : List Note) (supply : Supply) (o : OpeningNote) (before : List Note) (modes : Modes) (instance : Option Text)
    → EachNote (IsIssuedApproved whole) before
    → EachNote (IsIssuedApproved whole) (pending_outcome supply o before modes instance).notes
pend_approved whole supply o before modes instance h =
    each-append (IsIssuedApproved whole) before (door_note supply o 0 ∷ Pended (round_for supply o modes) ∷ []) h (tt, (tt, tt))

-- an approved grant is in no round
approved_unpending : (trail : List Note) (g now : ℕ) (r : RoundNote) → is_approved (grant_state trail g now) ≡ true
    → first_of (state_change_in g) trail ≡ Some (ToPending r) → ⊥
approved_unpending trail g now r approved e =
    at (list_any (is_end_of g) trail || has_ended (first_of (opening_in g) trail) now) (nat_le r.over now) (rw e at approved)
  where
    at : (a b : Bool) → is_approved (if a then IsFinalized else (if b then IsFinalized else IsPending r)) ≡ true → ⊥
    at true b h = cc h
    at false true h = cc h
    at false false h = cc h

action_approved : (supply : Supply) (trail : List Note) (call : Call) (action : Action) → Cause trail supply.now call action
    → EachNote (IsIssuedApproved (reverse (outcome_of supply action).notes ++ trail)) (outcome_of supply action).notes
action_approved supply trail call (TakeDecision r rights request) a = (tt, tt)
action_approved supply trail call (RenewDoor o) a = (tt, tt)
action_approved supply trail call (WrongReference o) a = (tt, tt)
action_approved supply trail call (LastWrongReference o) a = (tt, (tt, tt))
action_approved supply trail call (RefuseAndFinalize o code) a = (tt, tt)
action_approved supply trail call (CancelGrant o) a = (tt, tt)
action_approved supply trail call (RevokeToken t false) a = (tt, tt)
action_approved supply trail call (OpenAtOnce o request) a =
    let before : List Note = Opened o ∷ Terms (terms_for o request) ∷ Approved o.grant [] ∷ [] in
    grant_approved (reverse (outcome_of supply (OpenAtOnce o request)).notes ++ trail) supply o before request.asks request.single None (instance_of o)
    (grant_approves supply o before request.asks request.single None (instance_of o) trail
    (approved_is o.grant (Terms (terms_for o request) ∷ Opened o ∷ []) [])) (tt, (tt, (tt, tt)))
action_approved supply trail call (OpenAsking o request modes) a =
    pend_approved (reverse (outcome_of supply (OpenAsking o request modes)).notes ++ trail) supply o (Opened o ∷ Terms (terms_for o request) ∷ []) modes
    (instance_of o) (tt, (tt, tt))
action_approved supply trail call (CollectDecision o w d asks) a =
    let before : List Note = Approved o.grant d.rights ∷ [] in
    grant_approved (reverse (outcome_of supply (CollectDecision o w d asks)).notes ++ trail) supply o before asks w.single
    (if w.subject then d.subject else None) None
    (grant_approves supply o before asks w.single (if w.subject then d.subject else None) None trail (approved_is o.grant [] d.rights)) (tt, tt)
action_approved supply trail call (ModifyAtOnce o consent retired request) a =
    let rest : List Note = Terms (terms_for o request) ∷ Approved o.grant consent ∷ [] in
    let whole : List Note = reverse (outcome_of supply (ModifyAtOnce o consent retired request)).notes ++ trail in
    grant_approved whole supply o (retire retired ++ rest) request.asks request.single None None
    (grant_approves supply o (retire retired ++ rest) request.asks request.single None None trail (modify_approves o request consent retired))
    (retire_approved whole retired rest (tt, (tt, tt)))
action_approved supply trail call (ModifyAsking o retired request modes) a =
    let rest : List Note = Terms (terms_for o request) ∷ [] in
    let whole : List Note = reverse (outcome_of supply (ModifyAsking o retired request modes)).notes ++ trail in
    pend_approved whole supply o (retire retired ++ rest) modes None (retire_approved whole retired rest (tt, tt))
action_approved supply trail call (RotateToken o t key) a =
    let same : o.grant ≡ t.grant = (opening_noted trail t.grant o a.3).1 in
    let approved : is_approved (grant_state trail o.grant supply.now) ≡ true =
    subst (λ g. is_approved (grant_state trail g supply.now) ≡ true) (sym same) (live_parts trail supply.now t a.2).approved in
    (tt, ((λ r e. approved_unpending trail o.grant supply.now r approved e), tt))
action_approved supply trail call _ a = tt

-- ---- after one entry

pub pending_after : (supply : Supply) (trail : List Note) (call : Call) (action : Action) → IsSound trail → PendingRetires trail
    → Cause trail supply.now call action
    → PendingRetires (reverse (outcome_of supply action).notes ++ trail)
pending_after supply trail call action sound pending cause t r h e =
    let notes : List Note = (outcome_of supply action).notes in
    let whole : List Note = reverse notes ++ trail in
    elim (note_cases (reverse notes) trail (Issued t) h) [
      | inl new ↦ absurd (each_of (IsIssuedApproved whole) (reverse notes) (Issued t)
          (each-reverse (IsIssuedApproved whole) notes (action_approved supply trail call action cause)) new r e)
      | inr old ↦ pending_kept trail (reverse notes) t r pending old (fate supply trail call action t sound pending cause old) e
    ]

-- ---- tokens issued by an action

abbrev any_token : TokenNote → Bool
any_token token = true

some_if_test : (b : Bool) (t : TokenNote) → is_some (some_if b t) ≡ b
some_if_test true t = refl
some_if_test false t = refl

-- where a weaker test holds of each token that passes
issues_more : (one other : TokenNote → Bool) (trail : List Note) → ((t : TokenNote) → HasNote trail (Issued t) → one t ≡ true → other t ≡ true)
    → (n : Note) → HasNote trail n → issues one n ≡ true → issues other n ≡ true
issues_more one other trail more (Issued t) h e = some_if_test (other t) t ∙ more t h (sym (some_if_test (one t) t) ∙ e)
issues_more one other trail more _ h e = e

tokens_issued : (supply : Supply) (o : OpeningNote) (asks : List Ask) (k : ℕ)
    → count_by (issues any_token) (map Issued (tokens_for supply o asks k)) ≡ length asks
tokens_issued supply o [] k = refl
tokens_issued supply o (ask ∷ asks) k =
    let c = count-cons (issues any_token) (Issued (token_for supply o ask k)) (map Issued (tokens_for supply o asks (k + 2))) in
    let rest = tokens_issued supply o asks (k + 2) in omega arith

retire_issued : (ts : List TokenNote) (rest : List Note) → count_by (issues any_token) (retire ts ++ rest) ≡ count_by (issues any_token) rest
retire_issued [] rest = refl
retire_issued (t ∷ ts) rest =
    let c = count-cons (issues any_token) (Retired t.serial ByModification) (retire ts ++ rest) in
    let k = retire_issued ts rest in omega arith

grant_issued : (supply : Supply) (o : OpeningNote) (before : List Note) (asks : List Ask) (single : Bool) (subject instance : Option Text)
    → count_by (issues any_token) before ≡ 0
    → count_by (issues any_token) (grant_outcome supply o before asks single subject instance).notes ≡ length asks
grant_issued supply o before asks single subject instance none =
    let a = count-append (issues any_token) (before ++ map Issued (tokens_for supply o asks 0)) (door_note supply o (2 * length asks) ∷ []) in
    let b = count-append (issues any_token) before (map Issued (tokens_for supply o asks 0)) in
    let c = tokens_issued supply o asks 0 in omega arith

pend_issued : (supply : Supply) (o : OpeningNote) (before : List Note) (modes : Modes) (instance : Option Text)
    → count_by (issues any_token) (pending_outcome supply o before modes instance).notes ≡ count_by (issues any_token) before
pend_issued supply o before modes instance = let a = count-append (issues any_token) before (door_note supply o 0 ∷ Pended (round_for supply o modes) ∷ []) in
    omega arith

-- ---- live tokens after one entry

-- those issued before the entry that are live after it, and those that the entry issues, are no more than may be
abbrev StayWithin : Supply → List Note → Action → Type 0
StayWithin supply trail action =
    count_by (issues any_token) (outcome_of supply action).notes
    + count_by (issues (is_live (reverse (outcome_of supply action).notes ++ trail) supply.now)) trail ≤ live_limit

within : (supply : Supply) (trail : List Note) (call : Call) (action : Action) → IsSound trail → PendingRetires trail → Cause trail supply.now call action
    → HasRoom trail supply.now action
    → length (live_tokens trail supply.now) ≤ live_limit → StayWithin supply trail action
within supply trail call action sound pending cause room h = at action cause room
  where
    counted : length (live_tokens trail supply.now) ≡ count_by (issues (is_live trail supply.now)) trail
    counted = issued_counted (is_live trail supply.now) trail

    -- each of them was live before
    old : (action : Action) → Cause trail supply.now call action
        → count_by (issues (is_live (reverse (outcome_of supply action).notes ++ trail) supply.now)) trail ≤ count_by (issues (is_live trail supply.now)) trail
    old action a =
        let whole : List Note = reverse (outcome_of supply action).notes ++ trail in
        count_weaker (issues (is_live whole supply.now)) (issues (is_live trail supply.now)) trail
        (issues_more (is_live whole supply.now) (is_live trail supply.now) trail
        (λ t k e. live_was trail (reverse (outcome_of supply action).notes) supply.now t (fate supply trail call action t sound pending a k) e))

    plain : (action : Action) → Cause trail supply.now call action
        → count_by (issues any_token) (outcome_of supply action).notes + length (live_tokens trail supply.now) ≤ live_limit
        → StayWithin supply trail action
    plain action a few = let k = old action a in let c = counted in omega arith

    at : (action : Action) → Cause trail supply.now call action → HasRoom trail supply.now action → StayWithin supply trail action
    at (Refuse code) a r = plain (Refuse code) a (omega arith)
    at (ShowToken access t) a r = plain (ShowToken access t) a (omega arith)
    at ShowInactive a r = plain ShowInactive a (omega arith)
    at LapseAction a r = plain LapseAction a (omega arith)
    at (ShowRound round w o) a r = plain (ShowRound round w o) a (omega arith)
    at (ShowHandle round) a r = plain (ShowHandle round) a (omega arith)
    at (TakeDecision round rights request) a r = plain (TakeDecision round rights request) a (omega arith)
    at (RenewDoor o) a r = plain (RenewDoor o) a (omega arith)
    at (WrongReference o) a r = plain (WrongReference o) a (omega arith)
    at (LastWrongReference o) a r = plain (LastWrongReference o) a (omega arith)
    at (RefuseAndFinalize o code) a r = plain (RefuseAndFinalize o code) a (omega arith)
    at (CancelGrant o) a r = plain (CancelGrant o) a (omega arith)
    at (RevokeToken t true) a r = plain (RevokeToken t true) a (omega arith)
    at (RevokeToken t false) a r = plain (RevokeToken t false) a (omega arith)
    at (OpenAtOnce o request) a r = plain (OpenAtOnce o request) a
        (let few = r.1 in
        let k = grant_issued supply o (Opened o ∷ Terms (terms_for o request) ∷ Approved o.grant [] ∷ []) request.asks request.single None (instance_of o)
        refl in omega arith)
    at (OpenAsking o request modes) a r = plain (OpenAsking o request modes) a
        (let k = pend_issued supply o (Opened o ∷ Terms (terms_for o request) ∷ []) modes (instance_of o) in omega arith)
    at (CollectDecision o w d asks) a r = plain (CollectDecision o w d asks) a
        (let k = grant_issued supply o (Approved o.grant d.rights ∷ []) asks w.single (if w.subject then d.subject else None) None refl in omega arith)
    at (ModifyAsking o retired request modes) a r = plain (ModifyAsking o retired request modes) a
        (let k = pend_issued supply o (retire retired ++ Terms (terms_for o request) ∷ []) modes None in
        let j = retire_issued retired (Terms (terms_for o request) ∷ []) in omega arith)
    at (ModifyAtOnce o consent retired request) a r =
        let rest : List Note = Terms (terms_for o request) ∷ Approved o.grant consent ∷ [] in
        let whole : List Note = reverse (outcome_of supply (ModifyAtOnce o consent retired request)).notes ++ trail in
        let others : TokenNote → Bool = λ t. is_live trail supply.now t && not (t.grant == o.grant) in
        let k = grant_issued supply o (retire retired ++ rest) request.asks request.single None None (retire_issued retired rest) in
        let kept = filter_counted (is_live trail supply.now) (λ t. not (t.grant == o.grant)) trail in
        let weaker = count_weaker (issues (is_live whole supply.now)) (issues others) trail
        (issues_more (is_live whole supply.now) others trail (λ t issued e.
        and_from (is_live trail supply.now t) (not (t.grant == o.grant))
        (live_was trail (reverse (outcome_of supply (ModifyAtOnce o consent retired request)).notes) supply.now t
        (fate supply trail call (ModifyAtOnce o consent retired request) t sound pending a issued) e)
        (not_from_false (t.grant == o.grant) (false_from_ne_true (t.grant == o.grant) (λ same.
        let retires = at_once_retires supply trail o consent retired request a.0.0 t issued a.0.2 a.2 (sym (eqb-true t.grant o.grant same)) in
        let no = sym (live_parts whole supply.now t e).kept ∙ retires in cc no))))) in omega arith
    at (RotateToken o t key) a r =
        let whole : List Note = reverse (outcome_of supply (RotateToken o t key)).notes ++ trail in
        let issued : HasNote trail (Issued t) = (managed_issued trail supply.now a.1.0 t a.1.2).0 in
        let retires : list_any (is_retirement t.serial) whole
        ≡ true = or_left (t.serial == t.serial) (list_any (is_retirement t.serial) trail) (eq-eqb t.serial t.serial refl) in
        let dead : is_live whole supply.now t
        ≡ false = false_from_ne_true (is_live whole supply.now t) (λ e. let no = sym (live_parts whole supply.now t e).kept ∙ retires in cc no) in
        let less = count_less (issues (is_live whole supply.now)) (issues (is_live trail supply.now)) trail (Issued t) issued
        (some_if_test (is_live whole supply.now t) t ∙ dead) (some_if_test (is_live trail supply.now t) t ∙ a.2)
        (issues_more (is_live whole supply.now) (is_live trail supply.now) trail
        (λ u k e. live_was trail (reverse (outcome_of supply (RotateToken o t key)).notes) supply.now u
        (fate supply trail call (RotateToken o t key) u sound pending a k) e)) in
        let c = counted in omega arith

pub tokens_within : (supply : Supply) (trail : List Note) (call : Call) (action : Action) → IsSound trail → PendingRetires trail
    → Cause trail supply.now call action → HasRoom trail supply.now action
    → length (live_tokens trail supply.now) ≤ live_limit → length (live_tokens (reverse (outcome_of supply action).notes ++ trail) supply.now) ≤ live_limit
tokens_within supply trail call action sound pending cause room h =
    let notes : List Note = (outcome_of supply action).notes in
    let whole : List Note = reverse notes ++ trail in
    let all = issued_counted (is_live whole supply.now) whole in
    let parts = count-append (issues (is_live whole supply.now)) (reverse notes) trail in
    let new = count_weaker (issues (is_live whole supply.now)) (issues any_token) (reverse notes)
    (issues_more (is_live whole supply.now) any_token (reverse notes) (λ t k e. refl)) in
    let turned = count-reverse (issues any_token) notes in
    let few = within supply trail call action sound pending cause room h in omega arith

-- Time makes no token live.
pub tokens_later : (trail : List Note) (now later : ℕ) → now ≤ later → length (live_tokens trail later) ≤ length (live_tokens trail now)
tokens_later trail now later le =
    let a = issued_counted (is_live trail later) trail in
    let b = issued_counted (is_live trail now) trail in
    let weaker = count_weaker (issues (is_live trail later)) (issues (is_live trail now)) trail
    (issues_more (is_live trail later) (is_live trail now) trail (λ t k e.
    let parts = live_parts trail later t e in
    let early : later < t.until = ltb-true later t.until parts.early in
    live_from trail now t (record {
      kept = parts.kept;
      early = lt-ltb now t.until (omega arith);
      approved = approved_earlier trail t.grant now later le
          parts.approved;
    }))) in omega arith
