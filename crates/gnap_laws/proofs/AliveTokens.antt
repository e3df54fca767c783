-- What an entry does to a token that was alive before it.
use Rattle.std.proofs.Common.{ℕ, ◌≡◌, ◌<◌, ◌≤◌, ◌⊎◌, Bool, true, false, cond, List, [], ◌∷◌, ◌++◌, map, reverse, refl, sym, ◌∙◌, ap, subst, inl, inr, arith, Option, Some, None}
use Rattle.std.specs.Option.{option_or, option_to_list}
use Rattle.std.specs.Prelude.{◌&&◌, ◌||◌, not, ◌==◌, if◌then◌else◌}
use Rattle.std.specs.Bool.{Decides}
use Rattle.std.specs.List.{list_any, filter_map, cons_option}
use Rattle.std.proofs.lemmas.List.Sums.{sum_by-append}
use Rattle.std.proofs.lemmas.Bool.Decides.{Decides-eqb, same_from_decides}
use Rattle.std.proofs.lemmas.Slice.Eq.{bytes_eq-Decides}
use Rattle.std.proofs.lemmas.Bool.{and_from, and_left, and_parts, and_right, both_ways, false_from_ne_true, or_cases, or_from, or_left, or_parts, or_right}
use Rattle.std.proofs.lemmas.List.Folds.{list_any-append}
use Rattle.std.proofs.Math.Bool.{or-false}
use Rattle.gnap_model.specs.Common.{Text, same_text, Has, AreDistinct, first_of, some_if, is_text}
use Rattle.gnap_laws.specs.Types.{Right, Ask, Modes, GrantRequest, Call, Reply, ErrorCode, OpeningNote, TokenNote, RoundNote, Note}
use Rattle.gnap_model.specs.declared.objects.ErrorCode.TheVariants.{TooManyAttempts}
use Rattle.gnap_model.specs.declared.calls.Reply.TheVariants.{Done, Error}
use Rattle.gnap_model.specs.Change.{tokens_of}
use Rattle.gnap_model.specs.declared.calls.Call.TheVariants.{Rotate, Revoke}
use Rattle.gnap_model.specs.Notes.{trail_values}
use Rattle.gnap_model.specs.declared.notes.Why.TheVariants.{ByModification, ByRotation, ByRevocation}
use Rattle.gnap_model.specs.declared.notes.Note.TheVariants.{Opened, Terms, Approved, Issued, Door, Pended, Finalized, Wrong, Retired}
use Rattle.gnap_model.specs.Standing.{door, door_in, state_change_in, is_end_of, is_retirement, is_replacement, named_grant, next_grant, is_opening, token_in, is_managed, grant_state, has_ended, opening_in, is_finalized}
use Rattle.gnap_model.specs.Standing.GrantState.{IsPending, IsApproved, IsFinalized}
use Rattle.gnap_model.specs.Standing.StateChange.{ToPending, ToApproved}
use Rattle.gnap_model.specs.Actions.{Action, Supply, outcome_of, drawn_value, grant_outcome, pending_outcome, tokens_for, door_note, terms_for, instance_of, retire, round_for}
use Rattle.gnap_model.specs.Actions.Action.{Refuse, ShowToken, ShowInactive, LapseAction, OpenAtOnce, OpenAsking, ShowRound, ShowHandle, TakeDecision, RenewDoor, CollectDecision, WrongReference, LastWrongReference, RefuseAndFinalize, ModifyAtOnce, ModifyAsking, CancelGrant, RotateToken, RevokeToken}
use Rattle.gnap_laws.specs.Provenance.{presented_door, presented_manage, handed_door, is_among, ends_token, ends_tokens, is_modify, is_cancel, is_too_many}
use Rattle.gnap_laws.proofs.Causes.{Names, Manages, Cause, IsModify, IsInRound}
use Rattle.gnap_model.proofs.LookUps.{first_of-append, any-reverse}
use Rattle.gnap_model.proofs.TrailNotes.{HasNote, note-append_right, note-append_left, EachNote, each-append, each-reverse, door_noted, is_text_is, grant_named, token_found, managed_issued}
use Rattle.gnap_laws.proofs.Doors.{note_one}

-- ---- a token that is alive but for the time, and the doors on the chain of its origin

pub record IsAlive (trail : List Note) (chain : List Text) (t : TokenNote) : Type 0 where
  pub issued : HasNote trail (Issued t)
  pub known : t.grant < next_grant trail
  pub kept : list_any (is_retirement t.serial) trail ≡ false
  pub unended : list_any (is_end_of t.grant) trail ≡ false
  pub approved : first_of (state_change_in t.grant) trail ≡ Some ToApproved
  pub chain_has : (d : Text) → door trail t.grant ≡ Some d → Has chain d
  pub chain_of : (d : Text) → Has chain d → (x : ℕ) × HasNote trail (Door t.grant d x)

among_has : (chain : List Text) (v : Text) → Decides (is_among chain (Some v)) (Has chain v)
among_has [] v = ((λ e. cc e), (λ h. absurd h))
among_has (x ∷ xs) v = (
  (λ e. elim (or_cases (same_text v x) (list_any (same_text v) xs) e) [
    | inl a ↦ inl (let k = is_text_is x (Some v) a in cc k)
    | inr b ↦ inr ((among_has xs v).0 b)
  ]),
  (λ h. elim h [
    | inl a ↦ or_left (same_text v x) (list_any (same_text v) xs) (same_is v x a)
    | inr b ↦ or_right (same_text v x) (list_any (same_text v) xs) ((among_has xs v).1 b)
  ]),
)
  where
    same_is : (a b : Text) → a ≡ b → same_text a b ≡ true
    same_is a b e = (bytes_eq-Decides a b).1 e

-- an entry that names a grant is on the chain exactly where it is the token's grant
pub chain_named : (trail : List Note) (now : ℕ) (call : Call) (o : OpeningNote) (chain : List Text) (t : TokenNote) → AreDistinct (trail_values trail)
    → IsAlive trail chain t → Names trail now call o
    → is_among chain (presented_door call) ≡ (o.grant == t.grant)
chain_named trail now call o chain t distinct alive names =
    let v = names.0 in
    let dv : door trail o.grant ≡ Some v = (grant_named trail now v o names.2).named_by in
    ap (is_among chain) names.1
    ∙ same_from_decides (is_among chain (Some v)) (o.grant == t.grant) (
      (λ e.
          let c = alive.chain_of v ((among_has chain v).0 e) in
          let n = door_noted trail o.grant v dv in
          let same : Door o.grant v n.0 ≡ Door t.grant v c.0 = note_one trail (Door o.grant v n.0) (Door t.grant v c.0) v distinct n.1 c.1 (inl refl)
          (inl refl) in
          cc same),
      (λ e. (among_has chain v).1 (alive.chain_has v (subst (λ (g : ℕ). door trail g ≡ Some v) e dv))),
    )
    (Decides-eqb o.grant t.grant)

-- ---- notes that say nothing of the grant g

abbrev pub IsOther : ℕ → Note → Type 0
IsOther g n = (door_in g n ≡ None) × (state_change_in g n ≡ None) × (is_end_of g n ≡ false)

abbrev pub AreOther : ℕ → List Note → Type 0
AreOther g notes = EachNote (IsOther g) notes

other_door : (g : ℕ) (ns : List Note) → AreOther g ns → first_of (door_in g) ns ≡ None
other_door g [] h = refl
other_door g (n ∷ ns) h = ap (λ r. option_or r (first_of (door_in g) ns)) h.0.0 ∙ other_door g ns h.1

other_change : (g : ℕ) (ns : List Note) → AreOther g ns → first_of (state_change_in g) ns ≡ None
other_change g [] h = refl
other_change g (n ∷ ns) h = ap (λ r. option_or r (first_of (state_change_in g) ns)) h.0.1 ∙ other_change g ns h.1

other_end : (g : ℕ) (ns : List Note) → AreOther g ns → list_any (is_end_of g) ns ≡ false
other_end g [] h = refl
other_end g (n ∷ ns) h = ap (λ r. r || list_any (is_end_of g) ns) h.0.2 ∙ other_end g ns h.1

other_issued : (g : ℕ) (ts : List TokenNote) → AreOther g (map Issued ts)
other_issued g [] = tt
other_issued g (t ∷ ts) = ((refl, refl, refl), other_issued g ts)

other_retire : (g : ℕ) (ts : List TokenNote) → AreOther g (retire ts)
other_retire g [] = tt
other_retire g (t ∷ ts) = ((refl, refl, refl), other_retire g ts)

-- the notes on the grant h are about no other grant
door_other : (supply : Supply) (o : OpeningNote) (k g : ℕ) → (o.grant == g) ≡ false → IsOther g (door_note supply o k)
door_other supply o k g e = (ap (λ b. some_if b (drawn_value supply k)) e, refl, refl)

approved_other : (h g : ℕ) (consent : List Right) → (h == g) ≡ false → IsOther g (Approved h consent)
approved_other h g consent e = (refl, ap (λ b. some_if b ToApproved) e, refl)

pended_other : (supply : Supply) (o : OpeningNote) (modes : Modes) (g : ℕ) → (o.grant == g) ≡ false → IsOther g (Pended (round_for supply o modes))
pended_other supply o modes g e = (refl, ap (λ b. some_if b (ToPending (round_for supply o modes))) e, refl)

grant_other : (supply : Supply) (o : OpeningNote) (before : List Note) (asks : List Ask) (single : Bool) (subject instance : Option Text) (g : ℕ)
    → (o.grant == g) ≡ false → AreOther g before → AreOther g (grant_outcome supply o before asks single subject instance).notes
grant_other supply o before asks single subject instance g e h =
    each-append (IsOther g) (before ++ map Issued (tokens_for supply o asks 0)) (door_note supply o _ ∷ [])
    (each-append (IsOther g) before (map Issued (tokens_for supply o asks 0)) h (other_issued g (tokens_for supply o asks 0)))
    (door_other supply o _ g e, tt)

pend_other : (supply : Supply) (o : OpeningNote) (before : List Note) (modes : Modes) (instance : Option Text) (g : ℕ) → (o.grant == g) ≡ false
    → AreOther g before → AreOther g (pending_outcome supply o before modes instance).notes
pend_other supply o before modes instance g e h =
    each-append (IsOther g) before (door_note supply o 0 ∷ Pended (round_for supply o modes) ∷ []) h
    (door_other supply o 0 g e, (pended_other supply o modes g e, tt))

-- ---- retirements

issued_kept : (s : ℕ) (ts : List TokenNote) → list_any (is_retirement s) (map Issued ts) ≡ false
issued_kept s [] = refl
issued_kept s (t ∷ ts) = issued_kept s ts

pub grant_retires : (supply : Supply) (o : OpeningNote) (before : List Note) (asks : List Ask) (single : Bool) (subject instance : Option Text) (s : ℕ)
    → list_any (is_retirement s) (grant_outcome supply o before asks single subject instance).notes ≡ list_any (is_retirement s) before
grant_retires supply o before asks single subject instance s =
    list_any-append (is_retirement s) (before ++ map Issued (tokens_for supply o asks 0)) (door_note supply o _ ∷ [])
    ∙ or-false (list_any (is_retirement s) (before ++ map Issued (tokens_for supply o asks 0)))
    ∙ list_any-append (is_retirement s) before (map Issued (tokens_for supply o asks 0))
    ∙ ap (λ b. list_any (is_retirement s) before || b) (issued_kept s (tokens_for supply o asks 0)) ∙ or-false (list_any (is_retirement s) before)

pub pend_retires : (supply : Supply) (o : OpeningNote) (before : List Note) (modes : Modes) (instance : Option Text) (s : ℕ)
    → list_any (is_retirement s) (pending_outcome supply o before modes instance).notes ≡ list_any (is_retirement s) before
pend_retires supply o before modes instance s = list_any-append (is_retirement s) before (door_note supply o 0 ∷ Pended (round_for supply o modes) ∷ [])
    ∙ or-false (list_any (is_retirement s) before)

pub retire_any : (s : ℕ) (ts : List TokenNote) → list_any (is_retirement s) (retire ts) ≡ list_any (λ u. u.serial == s) ts
retire_any s [] = refl
retire_any s (t ∷ ts) = ap (λ b. (t.serial == s) || b) (retire_any s ts)

-- ---- the step: an entry either ends the token, by its reply and by its notes, or neither does

abbrev pub IsEndedBy : Call → Reply → Text → Bool → Bool
IsEndedBy call reply manage on = (is_text manage (presented_manage call) && ends_token reply) || (on && ends_tokens call reply)

pub record Stays (reply : Reply) (notes : List Note) (on : Bool) (g s : ℕ) : Type 0 where
  pub doors : first_of (door_in g) (reverse notes) ≡ (if on then handed_door reply else None)
  pub turns : first_of (state_change_in g) (reverse notes) ≡ None
  pub unended : list_any (is_end_of g) (reverse notes) ≡ false
  pub kept : list_any (is_retirement s) (reverse notes) ≡ false

abbrev pub EndsOrStays : Call → Reply → List Note → Bool → Text → ℕ → ℕ → Type 0
EndsOrStays call reply notes on manage g s =
    ((IsEndedBy call reply manage on ≡ true) × ((list_any (is_retirement s) (reverse notes) || list_any (is_end_of g) (reverse notes)) ≡ true))
    ⊎ ((IsEndedBy call reply manage on ≡ false) × Stays reply notes on g s)

if_none : (on : Bool) (x : Option Text) → (on ≡ false) ⊎ (x ≡ None) → (if on then x else None) ≡ None
if_none on x (inl e) = ap (λ b. if b then x else None) e
if_none true x (inr e) = e
if_none false x (inr e) = refl

neither : (a x b y : Bool) → (a ≡ false) ⊎ (x ≡ false) → (b ≡ false) ⊎ (y ≡ false) → ((a && x) || (b && y)) ≡ false
neither a x b y p q = or_from (a && x) (b && y) (one_off a x p) (one_off b y q)
  where
    one_off : (c d : Bool) → (c ≡ false) ⊎ (d ≡ false) → (c && d) ≡ false
    one_off c d (inl e) = and_left c d e
    one_off c d (inr e) = and_right c d e

second : (p b y : Bool) → b ≡ true → y ≡ true → (p || (b && y)) ≡ true
second p b y e f = or_right p (b && y) (and_from b y e f)

stays_other : (call : Call) (reply : Reply) (notes : List Note) (on : Bool) (manage : Text) (g s : ℕ) → AreOther g notes
    → list_any (is_retirement s) notes ≡ false
    → (on ≡ false) ⊎ (handed_door reply ≡ None) → (is_text manage (presented_manage call) ≡ false) ⊎ (ends_token reply ≡ false)
    → (on ≡ false) ⊎ (ends_tokens call reply ≡ false)
    → EndsOrStays call reply notes on manage g s
stays_other call reply notes on manage g s other kept d m e =
    inr (
      neither (is_text manage (presented_manage call)) (ends_token reply) on (ends_tokens call reply) m e,
      record {
        doors = other_door g (reverse notes) (each-reverse (IsOther g) notes other) ∙ sym (if_none on (handed_door reply) d);
        turns = other_change g (reverse notes) (each-reverse (IsOther g) notes other);
        unended = other_end g (reverse notes) (each-reverse (IsOther g) notes other);
        kept = any-reverse (is_retirement s) notes ∙ kept;
      },
    )

-- ---- what look-ups of tokens find

some_any : (f : TokenNote → Bool) (x : Option TokenNote) (xs : List TokenNote) → list_any f (cons_option x xs) ≡ true
    → ((u : TokenNote) × (x ≡ Some u) × (f u ≡ true)) ⊎ (list_any f xs ≡ true)
some_any f None xs e = inr e
some_any f (Some u) xs e = elim (or_cases (f u) (list_any f xs) e) [ inl a ↦ inl (u, refl, a) | inr b ↦ inr b ]

any_some : (f : TokenNote → Bool) (x : Option TokenNote) (xs : List TokenNote) (u : TokenNote) → x ≡ Some u → f u ≡ true → list_any f (cons_option x xs) ≡ true
any_some f None xs u e h = cc e
any_some f (Some w) xs u e h = or_left (f w) (list_any f xs) (let same : u ≡ w = cc e in subst (λ (x : TokenNote). f x ≡ true) same h)

any_rest : (f : TokenNote → Bool) (x : Option TokenNote) (xs : List TokenNote) → list_any f xs ≡ true → list_any f (cons_option x xs) ≡ true
any_rest f None xs e = e
any_rest f (Some w) xs e = or_right (f w) (list_any f xs) e

pub tokens_some : (f test : TokenNote → Bool) (ns : List Note) → list_any f (filter_map (token_in test) ns) ≡ true
    → (u : TokenNote) × HasNote ns (Issued u) × (test u ≡ true) × (f u ≡ true)
tokens_some f test [] e = cc e
tokens_some f test (n ∷ ns) e = elim (some_any f (token_in test n) (filter_map (token_in test) ns) e) [
  | inl a ↦ let k = token_found test a.0 n a.1 in (a.0, inl (sym k.0), k.1, a.2)
  | inr b ↦ let r = tokens_some f test ns b in (r.0, inr r.1, r.2, r.3)
]

pub tokens_has : (f test : TokenNote → Bool) (ns : List Note) (u : TokenNote) → HasNote ns (Issued u) → test u ≡ true → f u ≡ true
    → list_any f (filter_map (token_in test) ns) ≡ true
tokens_has f test [] u h p q = absurd h
tokens_has f test (n ∷ ns) u (inl a) p q =
    any_some f (token_in test n) (filter_map (token_in test) ns) u (ap (token_in test) (sym a) ∙ ap (λ b. some_if b u) p) q
tokens_has f test (n ∷ ns) u (inr b) p q = any_rest f (token_in test n) (filter_map (token_in test) ns) (tokens_has f test ns u b p q)

-- ---- states of grants

replaced_retired : (s : ℕ) (n : Note) → is_replacement s n ≡ true → is_retirement s n ≡ true
replaced_retired s (Retired u ByRotation) e = e
replaced_retired s (Retired u ByModification) e = e
replaced_retired s _ e = cc e

pub false_from : (a b : Bool) → (a ≡ true → b ≡ true) → b ≡ false → a ≡ false
false_from a b h e = false_from_ne_true a (λ t. both_ways b e (h t))

pub not_replaced : (s : ℕ) (ns : List Note) → list_any (is_retirement s) ns ≡ false → list_any (is_replacement s) ns ≡ false
not_replaced s [] e = refl
not_replaced s (n ∷ ns) e =
    let both = or_parts (is_retirement s n) (list_any (is_retirement s) ns) e in
    ap (λ b. b || list_any (is_replacement s) ns) (false_from (is_replacement s n) (is_retirement s n) (replaced_retired s n) both.0) ∙ not_replaced s ns both.1

-- a grant whose last change of state was an approval is in no round
pub approved_no_round : (trail : List Note) (g now : ℕ) (r : RoundNote) → first_of (state_change_in g) trail ≡ Some ToApproved
    → grant_state trail g now ≡ IsPending r → ⊥
approved_no_round trail g now r e s =
    at (list_any (is_end_of g) trail || has_ended (first_of (opening_in g) trail) now) (rw e at s)
  where
    at : (b : Bool) → (if b then IsFinalized else IsApproved) ≡ IsPending r → ⊥
    at true k = cc k
    at false k = cc k

no_manage : (call : Call) (v : Text) → presented_door call ≡ Some v → presented_manage call ≡ None
no_manage (Rotate key value new_key) v e = cc e
no_manage (Revoke key value) v e = cc e
no_manage _ v e = refl

-- ---- each action

abbrev pub ActionEndsOrStays : Supply → Call → Action → Bool → TokenNote → Type 0
ActionEndsOrStays supply call action on t = EndsOrStays call (outcome_of supply action).reply (outcome_of supply action).notes on t.manage t.grant t.serial

-- an action whose notes are about the grant h alone, where that isn't the token's
elsewhere : (call : Call) (reply : Reply) (notes : List Note) (on : Bool) (t : TokenNote) → on ≡ false
    → (is_text t.manage (presented_manage call) ≡ false) ⊎ (ends_token reply ≡ false) → AreOther t.grant notes → list_any (is_retirement t.serial) notes ≡ false
    → EndsOrStays call reply notes on t.manage t.grant t.serial
elsewhere call reply notes on t off m other kept = stays_other call reply notes on t.manage t.grant t.serial other kept (inl off) m (inl off)

-- an action that ends the grant of the token
ended_here : (call : Call) (reply : Reply) (notes : List Note) (on : Bool) (t : TokenNote) → on ≡ true → ends_tokens call reply ≡ true
    → list_any (is_end_of t.grant) notes ≡ true → EndsOrStays call reply notes on t.manage t.grant t.serial
ended_here call reply notes on t here e n =
    inl (
      second (is_text t.manage (presented_manage call) && ends_token reply) on (ends_tokens call reply) here e,
      or_right (list_any (is_retirement t.serial) (reverse notes)) (list_any (is_end_of t.grant) (reverse notes)) (any-reverse (is_end_of t.grant) notes ∙ n),
    )

-- an action that retires the token
retired_here : (call : Call) (reply : Reply) (notes : List Note) (on : Bool) (t : TokenNote) → IsEndedBy call reply t.manage on ≡ true
    → list_any (is_retirement t.serial) notes ≡ true → EndsOrStays call reply notes on t.manage t.grant t.serial
retired_here call reply notes on t e n =
    inl (
      e,
      or_left (list_any (is_retirement t.serial) (reverse notes)) (list_any (is_end_of t.grant) (reverse notes))
          (any-reverse (is_retirement t.serial) notes ∙ n),
    )

renew_step : (supply : Supply) (call : Call) (o : OpeningNote) (on : Bool) (t : TokenNote) (b : Bool) → (o.grant == t.grant) ≡ b → on ≡ b
    → ActionEndsOrStays supply call (RenewDoor o) on t
renew_step supply call o on t false e on_e = elsewhere call (outcome_of supply (RenewDoor o)).reply (outcome_of supply (RenewDoor o)).notes on t on_e (inr refl)
    (door_other supply o 0 t.grant e, tt) refl
renew_step supply call o on t true e on_e =
    inr (
      neither (is_text t.manage (presented_manage call)) false on false (inr refl) (inr refl),
      record {
        doors = ap (λ c. option_or (some_if c (drawn_value supply 0)) None) e ∙ sym (ap (λ c. if c then Some (drawn_value supply 0) else None) on_e);
        turns = refl;
        unended = refl;
        kept = refl;
      },
    )

end_step : (call : Call) (code : ErrorCode) (before : List Note) (o : OpeningNote) (on : Bool) (t : TokenNote) (b : Bool) → AreOther t.grant before
    → list_any (is_retirement t.serial) before ≡ false → is_too_many code ≡ true → (o.grant == t.grant) ≡ b → on ≡ b
    → EndsOrStays call (Error code) (before ++ Finalized o.grant ∷ []) on t.manage t.grant t.serial
end_step call code before o on t false other kept many e on_e =
    elsewhere call (Error code) (before ++ Finalized o.grant ∷ []) on t on_e (inr refl)
    (each-append (IsOther t.grant) before (Finalized o.grant ∷ []) other ((refl, refl, e), tt))
    (list_any-append (is_retirement t.serial) before (Finalized o.grant ∷ []) ∙ or-false (list_any (is_retirement t.serial) before) ∙ kept)
end_step call code before o on t true other kept many e on_e =
    ended_here call (Error code) (before ++ Finalized o.grant ∷ []) on t on_e many
    (list_any-append (is_end_of t.grant) before (Finalized o.grant ∷ [])
    ∙ or_right (list_any (is_end_of t.grant) before) ((o.grant == t.grant) || false) (or-false (o.grant == t.grant) ∙ e))

cancel_step : (call : Call) (o : OpeningNote) (on : Bool) (t : TokenNote) (b : Bool) → is_text t.manage (presented_manage call) ≡ false → is_cancel call ≡ true
    → (o.grant == t.grant) ≡ b → on ≡ b → EndsOrStays call Done (Finalized o.grant ∷ []) on t.manage t.grant t.serial
cancel_step call o on t false m c e on_e = elsewhere call Done (Finalized o.grant ∷ []) on t on_e (inl m) ((refl, refl, e), tt) refl
cancel_step call o on t true m c e on_e = ended_here call Done (Finalized o.grant ∷ []) on t on_e c (or-false (o.grant == t.grant) ∙ e)

-- an action in a round of the token's grant can't be
round_only : (trail : List Note) (now : ℕ) (o : OpeningNote) (t : TokenNote) → first_of (state_change_in t.grant) trail ≡ Some ToApproved
    → IsInRound trail now o → (o.grant == t.grant) ≡ false
round_only trail now o t approved r = at (o.grant == t.grant) refl
  where
    at : (b : Bool) → (o.grant == t.grant) ≡ b → (o.grant == t.grant) ≡ false
    at false e = e
    at true e = absurd (approved_no_round trail o.grant now r.0
        (let same : o.grant ≡ t.grant = (Decides-eqb o.grant t.grant).0 e in subst (λ (g : ℕ). first_of (state_change_in g) trail ≡ Some ToApproved) (sym same)
        approved) r.1)

-- Modify retires the tokens of its grant, and no others
abbrev pub IsOneSerial : List Note → Type 0
IsOneSerial trail = (t u : TokenNote) → HasNote trail (Issued t) → HasNote trail (Issued u) → t.serial ≡ u.serial → t ≡ u

modify_retires : (trail : List Note) (now : ℕ) (o : OpeningNote) (v : Text) (chain : List Text) (t : TokenNote) → IsOneSerial trail → IsAlive trail chain t
    → named_grant trail now v ≡ Some o
    → list_any (λ u. u.serial == t.serial) (tokens_of trail now o) ≡ (o.grant == t.grant)
modify_retires trail now o v chain t one alive named =
    let test : TokenNote → Bool = λ u. (u.grant == o.grant) && is_managed trail now u in
    let same : TokenNote → Bool = λ u. u.serial == t.serial in
    any-reverse same (filter_map (token_in test) trail)
    ∙ same_from_decides (list_any same (filter_map (token_in test) trail)) (o.grant == t.grant) (
      (λ e.
          let r = tokens_some same test trail e in
          let is : r.0 ≡ t = one r.0 t r.1 alive.issued ((Decides-eqb r.0.serial t.serial).0 r.3) in
          let g : r.0.grant ≡ o.grant = (Decides-eqb r.0.grant o.grant).0 (and_parts (r.0.grant == o.grant) (is_managed trail now r.0) r.2).0 in
          sym g ∙ ap (λ (u : TokenNote). u.grant) is),
      (λ e. tokens_has same test trail t alive.issued
          (and_from (t.grant == o.grant) (is_managed trail now t) ((Decides-eqb t.grant o.grant).1 (sym e))
          (and_from (not (list_any (is_replacement t.serial) trail)) (not (is_finalized (grant_state trail t.grant now)))
          (ap not (not_replaced t.serial trail alive.kept))
          (subst (λ (g : ℕ). not (is_finalized (grant_state trail g now)) ≡ true) e (grant_named trail now v o named).goes_on)))
          ((Decides-eqb t.serial t.serial).1 refl)),
    )
    (Decides-eqb o.grant t.grant)

modify_step : (call : Call) (reply : Reply) (notes : List Note) (o : OpeningNote) (on : Bool) (t : TokenNote) (b : Bool) → is_modify call ≡ true
    → ends_token reply ≡ false → ends_tokens call reply ≡ is_modify call
    → ((o.grant == t.grant) ≡ false → AreOther t.grant notes) → list_any (is_retirement t.serial) notes ≡ (o.grant == t.grant) → (o.grant == t.grant) ≡ b
    → on ≡ b → EndsOrStays call reply notes on t.manage t.grant t.serial
modify_step call reply notes o on t false m e k other retires is on_e = elsewhere call reply notes on t on_e (inr e) (other is) (retires ∙ is)
modify_step call reply notes o on t true m e k other retires is on_e =
    retired_here call reply notes on t (second (is_text t.manage (presented_manage call) && ends_token reply) on (ends_tokens call reply) on_e (k ∙ m))
    (retires ∙ is)

modify_is : (call : Call) (request : GrantRequest) → IsModify call request → is_modify call ≡ true
modify_is call request is = ap is_modify is.2

-- an action that answers no continuation value is off the chain
off_chain : (chain : List Text) (call : Call) → presented_door call ≡ None → is_among chain (presented_door call) ≡ false
off_chain chain call e = ap (is_among chain) e

-- a token with another serial, or this one
replace_step : (trail : List Note) (now : ℕ) (call : Call) (reply : Reply) (notes : List Note) (on : Bool) (t u : TokenNote) (chain : List Text)
    → AreDistinct (trail_values trail) → IsOneSerial trail → IsAlive trail chain t → Manages trail now call u
    → on ≡ false → ends_token reply ≡ true → handed_door reply ≡ None → AreOther t.grant notes
    → list_any (is_retirement t.serial) notes ≡ (u.serial == t.serial) → EndsOrStays call reply notes on t.manage t.grant t.serial
replace_step trail now call reply notes on t u chain distinct one alive manages off ends none other retires = at (u.serial == t.serial) refl
  where
    found : HasNote trail (Issued u) × (u.manage ≡ manages.0)
    found = managed_issued trail now manages.0 u manages.2

    presented : is_text t.manage (presented_manage call) ≡ same_text manages.0 t.manage
    presented = ap (is_text t.manage) manages.1

    at : (b : Bool) → (u.serial == t.serial) ≡ b → EndsOrStays call reply notes on t.manage t.grant t.serial
    at true e =
        let same : u ≡ t = one u t found.0 alive.issued ((Decides-eqb u.serial t.serial).0 e) in
        let v : manages.0 ≡ t.manage = sym found.1 ∙ ap (λ (x : TokenNote). x.manage) same in
        let is : is_text t.manage (presented_manage call) ≡ true = presented ∙ (bytes_eq-Decides manages.0 t.manage).1 v in
        retired_here call reply notes on t
        (or_left (is_text t.manage (presented_manage call) && ends_token reply) (on && ends_tokens call reply) (rw (is, ends) refl)) (retires ∙ e)
    at false e =
        let differs : same_text manages.0 t.manage ≡ false = false_from (same_text manages.0 t.manage) (u.serial == t.serial)
        (λ h.
        let m : u.manage ≡ t.manage = found.1 ∙ (bytes_eq-Decides manages.0 t.manage).0 h in
        let note : Issued u ≡ Issued t = note_one trail (Issued u) (Issued t) t.manage distinct found.0 alive.issued (inl (sym m)) (inl refl) in
        (Decides-eqb u.serial t.serial).1 (let k : u ≡ t = cc note in ap (λ (x : TokenNote). x.serial) k)) e in
        elsewhere call reply notes on t off (inl (presented ∙ differs)) other (retires ∙ e)

-- a new grant is another
new_grant : (trail : List Note) (o : OpeningNote) (t : TokenNote) → o.grant ≡ next_grant trail → t.grant < next_grant trail → (o.grant == t.grant) ≡ false
new_grant trail o t e k = false_from_ne_true (o.grant == t.grant) (λ h. let same : o.grant ≡ t.grant = (Decides-eqb o.grant t.grant).0 h in omega arith)

-- ---- the step, for every action

pub alive_next : (supply : Supply) (trail : List Note) (call : Call) (action : Action) (chain : List Text) (t : TokenNote) → AreDistinct (trail_values trail)
    → IsOneSerial trail → IsAlive trail chain t → Cause trail supply.now call action
    → ActionEndsOrStays supply call action (is_among chain (presented_door call)) t
alive_next supply trail call (Refuse code) chain t d one alive a = stays_other call (Error code) [] (is_among chain (presented_door call)) t.manage t.grant
    t.serial tt refl (inr refl) (inr refl) (inr a)
alive_next supply trail call (ShowToken access u) chain t d one alive a = elsewhere call (outcome_of supply (ShowToken access u)).reply []
    (is_among chain (presented_door call)) t (off_chain chain call a) (inr refl) tt refl
alive_next supply trail call ShowInactive chain t d one alive a = elsewhere call (outcome_of supply ShowInactive).reply []
    (is_among chain (presented_door call)) t (off_chain chain call a) (inr refl) tt refl
alive_next supply trail call LapseAction chain t d one alive a = elsewhere call (outcome_of supply LapseAction).reply [] (is_among chain (presented_door call))
    t (off_chain chain call a) (inr refl) tt refl
alive_next supply trail call (ShowRound r w o) chain t d one alive a = elsewhere call (outcome_of supply (ShowRound r w o)).reply []
    (is_among chain (presented_door call)) t (off_chain chain call a) (inr refl) tt refl
alive_next supply trail call (ShowHandle r) chain t d one alive a = elsewhere call (outcome_of supply (ShowHandle r)).reply []
    (is_among chain (presented_door call)) t (off_chain chain call a) (inr refl) tt refl
alive_next supply trail call (TakeDecision r rights request) chain t d one alive a =
    elsewhere call (outcome_of supply (TakeDecision r rights request)).reply (outcome_of supply (TakeDecision r rights request)).notes
    (is_among chain (presented_door call)) t (off_chain chain call a) (inr refl) ((refl, refl, refl), tt) refl
alive_next supply trail call (OpenAtOnce o request) chain t d one alive a =
    let e : (o.grant == t.grant) ≡ false = new_grant trail o t a.2 alive.known in
    let before : List Note = Opened o ∷ Terms (terms_for o request) ∷ Approved o.grant [] ∷ [] in
    elsewhere call (outcome_of supply (OpenAtOnce o request)).reply (outcome_of supply (OpenAtOnce o request)).notes (is_among chain (presented_door call)) t
    (off_chain chain call a.0) (inr refl)
    (grant_other supply o before request.asks request.single None (instance_of o) t.grant e
    ((refl, refl, refl), ((refl, refl, refl), (approved_other o.grant t.grant [] e, tt))))
    (grant_retires supply o before request.asks request.single None (instance_of o) t.serial)
alive_next supply trail call (OpenAsking o request modes) chain t d one alive a =
    let e : (o.grant == t.grant) ≡ false = new_grant trail o t a.2 alive.known in
    let before : List Note = Opened o ∷ Terms (terms_for o request) ∷ [] in
    elsewhere call (outcome_of supply (OpenAsking o request modes)).reply (outcome_of supply (OpenAsking o request modes)).notes
    (is_among chain (presented_door call)) t (off_chain chain call a.0) (inr refl)
    (pend_other supply o before modes (instance_of o) t.grant e ((refl, refl, refl), ((refl, refl, refl), tt)))
    (pend_retires supply o before modes (instance_of o) t.serial)
alive_next supply trail call (RenewDoor o) chain t d one alive a =
    renew_step supply call o (is_among chain (presented_door call)) t (o.grant == t.grant) refl (chain_named trail supply.now call o chain t d alive a)
alive_next supply trail call (CollectDecision o w dc asks) chain t d one alive a =
    let e : (o.grant == t.grant) ≡ false = round_only trail supply.now o t alive.approved a.1 in
    elsewhere call (outcome_of supply (CollectDecision o w dc asks)).reply (outcome_of supply (CollectDecision o w dc asks)).notes
    (is_among chain (presented_door call)) t (chain_named trail supply.now call o chain t d alive a.0 ∙ e) (inr refl)
    (grant_other supply o (Approved o.grant dc.rights ∷ []) asks w.single (if w.subject then dc.subject else None) None t.grant e
    (approved_other o.grant t.grant dc.rights e, tt))
    (grant_retires supply o (Approved o.grant dc.rights ∷ []) asks w.single (if w.subject then dc.subject else None) None t.serial)
alive_next supply trail call (WrongReference o) chain t d one alive a =
    stays_other call (outcome_of supply (WrongReference o)).reply (outcome_of supply (WrongReference o)).notes (is_among chain (presented_door call)) t.manage
    t.grant t.serial ((refl, refl, refl), tt) refl (inr refl) (inr refl) (inr refl)
alive_next supply trail call (LastWrongReference o) chain t d one alive a =
    end_step call TooManyAttempts (Wrong o.grant ∷ []) o (is_among chain (presented_door call)) t (o.grant == t.grant) ((refl, refl, refl), tt) refl refl refl
    (chain_named trail supply.now call o chain t d alive a.0)
alive_next supply trail call (RefuseAndFinalize o code) chain t d one alive (names, inl many) =
    end_step call code [] o (is_among chain (presented_door call)) t (o.grant == t.grant) tt refl many refl
    (chain_named trail supply.now call o chain t d alive names)
alive_next supply trail call (RefuseAndFinalize o code) chain t d one alive (names, inr round) =
    let e : (o.grant == t.grant) ≡ false = round_only trail supply.now o t alive.approved round.0 in
    elsewhere call (Error code) (Finalized o.grant ∷ []) (is_among chain (presented_door call)) t
    (chain_named trail supply.now call o chain t d alive names ∙ e) (inr refl) ((refl, refl, e), tt) refl
alive_next supply trail call (ModifyAtOnce o consent retired request) chain t d one alive a =
    let before : List Note = retire retired ++ Terms (terms_for o request) ∷ Approved o.grant consent ∷ [] in
    modify_step call (outcome_of supply (ModifyAtOnce o consent retired request)).reply (outcome_of supply (ModifyAtOnce o consent retired request)).notes o
    (is_among chain (presented_door call)) t (o.grant == t.grant) (modify_is call request a.1) refl refl
    (λ e. grant_other supply o before request.asks request.single None None t.grant e
    (each-append (IsOther t.grant) (retire retired) (Terms (terms_for o request) ∷ Approved o.grant consent ∷ []) (other_retire t.grant retired)
    ((refl, refl, refl), (approved_other o.grant t.grant consent e, tt))))
    (grant_retires supply o before request.asks request.single None None t.serial
    ∙ list_any-append (is_retirement t.serial) (retire retired) (Terms (terms_for o request) ∷ Approved o.grant consent ∷ [])
    ∙ or-false (list_any (is_retirement t.serial) (retire retired))
    ∙ retire_any t.serial retired ∙ ap (list_any (λ u. u.serial == t.serial)) a.2 ∙ modify_retires trail supply.now o a.0.0 chain t one alive a.0.2)
    refl (chain_named trail supply.now call o chain t d alive a.0)
alive_next supply trail call (ModifyAsking o retired request modes) chain t d one alive a =
    let before : List Note = retire retired ++ Terms (terms_for o request) ∷ [] in
    modify_step call (outcome_of supply (ModifyAsking o retired request modes)).reply (outcome_of supply (ModifyAsking o retired request modes)).notes o
    (is_among chain (presented_door call)) t (o.grant == t.grant) (modify_is call request a.1) refl refl
    (λ e. pend_other supply o before modes None t.grant e
    (each-append (IsOther t.grant) (retire retired) (Terms (terms_for o request) ∷ []) (other_retire t.grant retired) ((refl, refl, refl), tt)))
    (pend_retires supply o before modes None t.serial
    ∙ list_any-append (is_retirement t.serial) (retire retired) (Terms (terms_for o request) ∷ [])
    ∙ or-false (list_any (is_retirement t.serial) (retire retired))
    ∙ retire_any t.serial retired ∙ ap (list_any (λ u. u.serial == t.serial)) a.2 ∙ modify_retires trail supply.now o a.0.0 chain t one alive a.0.2)
    refl (chain_named trail supply.now call o chain t d alive a.0)
alive_next supply trail call (CancelGrant o) chain t d one alive a =
    cancel_step call o (is_among chain (presented_door call)) t (o.grant == t.grant) (ap (is_text t.manage) (no_manage call a.0.0 a.0.1)) a.1 refl
    (chain_named trail supply.now call o chain t d alive a.0)
alive_next supply trail call (RotateToken o u key) chain t d one alive a =
    replace_step trail supply.now call (outcome_of supply (RotateToken o u key)).reply (outcome_of supply (RotateToken o u key)).notes
    (is_among chain (presented_door call)) t u chain d one alive a.1 (off_chain chain call a.0) refl refl
    ((refl, refl, refl), ((refl, refl, refl), tt)) (or-false (u.serial == t.serial))
alive_next supply trail call (RevokeToken u was_retired) chain t d one alive a =
    let e : was_retired ≡ list_any (is_retirement u.serial) trail = a.2 in
    take_back was_retired e
  where
    take_back : (b : Bool) → b ≡ list_any (is_retirement u.serial) trail
        → ActionEndsOrStays supply call (RevokeToken u b) (is_among chain (presented_door call)) t
    take_back false e = replace_step trail supply.now call Done (Retired u.serial ByRevocation ∷ []) (is_among chain (presented_door call)) t u chain d one
        alive a.1 (off_chain chain call a.0) refl refl
        ((refl, refl, refl), tt) (or-false (u.serial == t.serial))
    take_back true e = replace_step trail supply.now call Done [] (is_among chain (presented_door call)) t u chain d one alive a.1 (off_chain chain call a.0)
        refl refl tt
        (sym (false_from_ne_true (u.serial == t.serial) (λ h.
        let same : u.serial ≡ t.serial = (Decides-eqb u.serial t.serial).0 h in
        let kept : list_any (is_retirement u.serial) trail ≡ false = subst (λ (s : ℕ). list_any (is_retirement s) trail ≡ false) (sym same) alive.kept in
        let k = e ∙ kept in cc k)))

-- ---- a token that isn't ended stays alive, and its chain has the new door

-- the doors on the chain of an origin, after one more entry
abbrev pub chain_after : Bool → Option Text → List Text → List Text
chain_after on handed chain = if on then option_to_list handed ++ chain else chain

doors_after : (on : Bool) (handed : Option Text) (chain : List Text) (old : Option Text) (d : Text) → ((x : Text) → old ≡ Some x → Has chain x)
    → option_or (if on then handed else None) old ≡ Some d → Has (chain_after on handed chain) d
doors_after true (Some w) chain old d h e = inl (let k = sym e in cc k)
doors_after true None chain old d h e = h d e
doors_after false handed chain old d h e = h d e

chain_cases : (on : Bool) (handed : Option Text) (chain : List Text) (d : Text) → Has (chain_after on handed chain) d
    → ((if on then handed else None) ≡ Some d) ⊎ Has chain d
chain_cases true (Some w) chain d (inl e) = inl (ap Some (sym e))
chain_cases true (Some w) chain d (inr h) = inr h
chain_cases true None chain d h = inr h
chain_cases false handed chain d h = inr h

more_grants : (xs ys : List Note) → next_grant ys ≤ next_grant (xs ++ ys)
more_grants xs ys = let k = sum_by-append (λ (n : Note). cond (is_opening n) 1 0) xs ys in omega arith

pub alive_after : (reply : Reply) (notes trail : List Note) (on : Bool) (chain : List Text) (t : TokenNote) → IsAlive trail chain t
    → Stays reply notes on t.grant t.serial
    → IsAlive (reverse notes ++ trail) (chain_after on (handed_door reply) chain) t
alive_after reply notes trail on chain t alive stays = record {
  issued = note-append_right (reverse notes) trail (Issued t) alive.issued;
  known = (let k = more_grants (reverse notes) trail in let h = alive.known in omega arith);
  kept = list_any-append (is_retirement t.serial) (reverse notes) trail
      ∙ or_from (list_any (is_retirement t.serial) (reverse notes)) (list_any (is_retirement t.serial) trail) stays.kept alive.kept;
  unended = list_any-append (is_end_of t.grant) (reverse notes) trail
      ∙ or_from (list_any (is_end_of t.grant) (reverse notes)) (list_any (is_end_of t.grant) trail) stays.unended alive.unended;
  approved = first_of-append (state_change_in t.grant) (reverse notes) trail ∙ ap (λ r. option_or r (first_of (state_change_in t.grant) trail)) stays.turns
      ∙ alive.approved;
  chain_has = λ d e. doors_after on (handed_door reply) chain (door trail t.grant) d alive.chain_has
      (ap (λ r. option_or r (door trail t.grant)) (sym stays.doors) ∙ sym (first_of-append (door_in t.grant) (reverse notes) trail) ∙ e);
  chain_of = λ d h. elim (chain_cases on (handed_door reply) chain d h) [
    | inl e ↦ let n = door_noted (reverse notes) t.grant d (stays.doors ∙ e) in (n.0, note-append_left (reverse notes) trail (Door t.grant d n.0) n.1)
    | inr old ↦ let n = alive.chain_of d old in (n.0, note-append_right (reverse notes) trail (Door t.grant d n.0) n.1)
  ];
}
