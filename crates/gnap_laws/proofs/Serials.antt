-- The values that are drawn have the serials 1, 2, 3 and so on, so they differ.
use Rattle.std.proofs.Common.{ℕ, ◌≡◌, ◌<◌, ◌≤◌, ◌+◌, ◌*◌, ◌^◌, Bool, true, false, List, [], ◌∷◌, ◌++◌, length, map, reverse, refl, sym, ◌∙◌, ap, subst, inl, inr, arith, append_assoc, append-nil, Option, Some, None}
use Rattle.std.specs.Option.{option_to_list}
use Rattle.std.specs.List.{flat_map}
use Rattle.std.proofs.lemmas.List.{reverse-append}
use Rattle.std.specs.Prelude.{slice_index, is_some, if◌then◌else◌}
use Rattle.gnap_laws.proofs.Causes.{chosen}
use Rattle.gnap_model.specs.Common.{Text, Has, AreDistinct, some_if}
use Rattle.gnap_model.specs.Values.{value_text}
use Rattle.gnap_laws.specs.Types.{Ask, Modes, Finish, OpeningNote, TokenNote, RoundNote, Note, Setup}
use Rattle.gnap_model.specs.Notes.{note_values, trail_values}
use Rattle.gnap_model.specs.declared.notes.Note.TheVariants.{Opened, Issued, Terms, Approved}
use Rattle.gnap_model.specs.Actions.{Action, Supply, outcome_of, drawn_value, tokens_for, token_out, terms_for, instance_of, retire, or_zeros, grant_outcome, pending_outcome, finish_of}
use Rattle.gnap_model.specs.Actions.Action.{OpenAtOnce, OpenAsking, TakeDecision, RenewDoor, CollectDecision, ModifyAtOnce, ModifyAsking, RotateToken, RevokeToken}
use Rattle.gnap_model.specs.Notes.{Event, trail_of}
use Rattle.gnap_model.specs.Answer.{supply_at}
use Rattle.gnap_model.specs.Legal.{IsLegalPast}
use Rattle.gnap_laws.specs.Provenance.{drawn_in, drawn_by, token_values, reference_in}
use Rattle.gnap_model.proofs.ValueTexts.{value_text_injective}

-- ---- lists of values by their serials

-- the newest value has the greatest serial, which is how many there are
abbrev pub IsSerialled : List Text → Type 0
IsSerialled [] = Unit {0}
IsSerialled (v ∷ vs) = ((a : ℕ) × (b : ℕ) × (v ≡ value_text (length vs + 1) a b)) × IsSerialled vs

-- the values are those of an entry from the k-th on
abbrev pub IsRun : Supply → ℕ → List Text → Type 0
IsRun supply k [] = Unit {0}
IsRun supply k (v ∷ vs) = (v ≡ drawn_value supply k) × IsRun supply (k + 1) vs

reverse-onto : (w : Text) (ws vs : List Text) → reverse (w ∷ ws) ++ vs ≡ reverse ws ++ (w ∷ vs)
reverse-onto w ws vs = ap (λ (x : List Text). x ++ vs) (reverse-append (w ∷ []) ws) ∙ append_assoc (reverse ws) (w ∷ []) vs

pub serialled_more : (supply : Supply) (k : ℕ) (ws vs : List Text) → IsRun supply k ws → supply.first + k ≡ length vs + 1 → IsSerialled vs
    → IsSerialled (reverse ws ++ vs)
serialled_more supply k [] vs run e h = h
serialled_more supply k (w ∷ ws) vs run e h =
    let here : w ≡ value_text (length vs + 1) (slice_index supply.words (2 * k)) (slice_index supply.words (2 * k + 1))
    = run.0 ∙ ap (λ n. value_text n (slice_index supply.words (2 * k)) (slice_index supply.words (2 * k + 1))) e in
    subst IsSerialled (sym (reverse-onto w ws vs))
    (serialled_more supply (k + 1) ws (w ∷ vs) run.1 (omega arith) (((slice_index supply.words (2 * k), slice_index supply.words (2 * k + 1), here)), h))

-- a value of the list has a serial that is at most the length
pub serial_in : (vs : List Text) (v : Text) → IsSerialled vs → Has vs v → (s : ℕ) × (a : ℕ) × (b : ℕ) × (s ≤ length vs) × (v ≡ value_text s a b)
serial_in [] v h has = absurd has
serial_in (x ∷ xs) v h (inl e) = (length xs + 1, h.0.0, h.0.1, omega arith, e ∙ h.0.2)
serial_in (x ∷ xs) v h (inr has) = let r = serial_in xs v h.1 has in (r.0, r.1, r.2, omega arith, r.4)

pub serialled_distinct : (vs : List Text) → length vs < 2 ^ 64 → IsSerialled vs → AreDistinct vs
serialled_distinct [] few h = tt
serialled_distinct (v ∷ vs) few h = (
  (λ has. let r = serial_in vs v h.1 has in
      let same : length vs + 1 ≡ r.0 = value_text_injective (length vs + 1) r.0 h.0.0 h.0.1 r.1 r.2 (omega arith) (omega arith) (sym h.0.2 ∙ r.4) in
      let low : r.0 ≤ length vs = r.3 in absurd (omega arith)),
  serialled_distinct vs (omega arith) h.1,
)

-- ---- the values of an action's notes are a run

IsRun-append : (supply : Supply) (k : ℕ) (xs ys : List Text) → IsRun supply k xs → IsRun supply (k + length xs) ys → IsRun supply k (xs ++ ys)
IsRun-append supply k [] ys hx hy = let e : k + length {A = Text} [] ≡ k = omega arith in subst (λ n. IsRun supply n ys) e hy
IsRun-append supply k (x ∷ xs) ys hx hy = (
  hx.0,
  IsRun-append supply (k + 1) xs ys hx.1
      (let e : k + length (x ∷ xs) ≡ k + 1 + length xs = omega arith in subst (λ n. IsRun supply n ys) e hy),
)

tokens_run : (supply : Supply) (o : OpeningNote) (asks : List Ask) (k : ℕ) → IsRun supply k (flat_map note_values (map Issued (tokens_for supply o asks k)))
tokens_run supply o [] k = tt
tokens_run supply o (ask ∷ asks) k = (
  refl,
  (
    refl,
    (let e : k + 2 ≡ k + 1 + 1 = omega arith in subst (λ n. IsRun supply n (flat_map note_values (map Issued (tokens_for supply o asks (k + 2))))) e
        (tokens_run supply o asks (k + 2))),
  ),
)

pub tokens_length : (supply : Supply) (o : OpeningNote) (asks : List Ask) (k : ℕ)
    → length (flat_map note_values (map Issued (tokens_for supply o asks k))) ≡ 2 * length asks
tokens_length supply o [] k = refl
tokens_length supply o (ask ∷ asks) k = let h = tokens_length supply o asks (k + 2) in omega arith

flat-append : (xs ys : List Note) → flat_map note_values (xs ++ ys) ≡ flat_map note_values xs ++ flat_map note_values ys
flat-append [] ys = refl
flat-append (x ∷ xs) ys = ap (λ (r : List Text). note_values x ++ r) (flat-append xs ys)
    ∙ sym (append_assoc (note_values x) (flat_map note_values xs) (flat_map note_values ys))

pub retired_none : (ts : List TokenNote) (rest : List Note) → flat_map note_values (retire ts ++ rest) ≡ flat_map note_values rest
retired_none [] rest = refl
retired_none (t ∷ ts) rest = retired_none ts rest

pub grant_values : (supply : Supply) (o : OpeningNote) (before : List Note) (asks : List Ask) (single : Bool) (subject instance : Option Text)
    → flat_map note_values before ≡ []
    → flat_map note_values (grant_outcome supply o before asks single subject instance).notes ≡ flat_map note_values (map Issued (tokens_for supply o asks 0))
    ++ drawn_value supply (2 * length asks) ∷ []
grant_values supply o before asks single subject instance none =
    flat-append (before ++ map Issued (tokens_for supply o asks 0)) _
    ∙ ap (λ (x : List Text). x ++ drawn_value supply (2 * length asks) ∷ [])
    (flat-append before (map Issued (tokens_for supply o asks 0))
    ∙ ap (λ (x : List Text). x ++ flat_map note_values (map Issued (tokens_for supply o asks 0))) none)

grant_run : (supply : Supply) (o : OpeningNote) (before : List Note) (asks : List Ask) (single : Bool) (subject instance : Option Text)
    → flat_map note_values before ≡ []
    → IsRun supply 0 (flat_map note_values (grant_outcome supply o before asks single subject instance).notes)
grant_run supply o before asks single subject instance none =
    subst (IsRun supply 0) (sym (grant_values supply o before asks single subject instance none))
    (IsRun-append supply 0 (flat_map note_values (map Issued (tokens_for supply o asks 0))) (drawn_value supply (2 * length asks) ∷ [])
    (tokens_run supply o asks 0)
    (ap (drawn_value supply) (let h = tokens_length supply o asks 0 in omega arith), tt))

shown_values : (now : ℕ) (ts : List TokenNote) → flat_map token_values (map (token_out now) ts) ≡ flat_map note_values (map Issued ts)
shown_values now [] = refl
shown_values now (t ∷ ts) = ap (λ (r : List Text). t.value ∷ t.manage ∷ r) (shown_values now ts)

grant_draws : (supply : Supply) (o : OpeningNote) (before : List Note) (asks : List Ask) (single : Bool) (subject instance : Option Text)
    → flat_map note_values before ≡ []
    → drawn_in (grant_outcome supply o before asks single subject instance).reply
    ≡ flat_map note_values (grant_outcome supply o before asks single subject instance).notes
grant_draws supply o before asks single subject instance none =
    ap (λ (x : List Text). x ++ drawn_value supply (2 * length asks) ∷ []) (shown_values supply.now (tokens_for supply o asks 0))
    ∙ sym (grant_values supply o before asks single subject instance none)

pub pend_values : (supply : Supply) (o : OpeningNote) (before : List Note) (modes : Modes) (instance : Option Text) → flat_map note_values before ≡ []
    → flat_map note_values (pending_outcome supply o before modes instance).notes ≡ drawn_value supply 0 ∷ drawn_value supply 1
    ∷ option_to_list (some_if (is_some modes.finish) (drawn_value supply 2))
pend_values supply o before modes instance none =
    flat-append before _ ∙ ap (λ (x : List Text). x
    ++ (drawn_value supply 0 ∷ drawn_value supply 1 ∷ (option_to_list (some_if (is_some modes.finish) (drawn_value supply 2)) ++ []))) none
    ∙ ap (λ (x : List Text). drawn_value supply 0 ∷ drawn_value supply 1 ∷ x)
    (append-nil (option_to_list (some_if (is_some modes.finish) (drawn_value supply 2))))

listed_run : (supply : Supply) (k : ℕ) (b : Bool) → IsRun supply k (option_to_list (some_if b (drawn_value supply k)))
listed_run supply k true = (refl, tt)
listed_run supply k false = tt

pend_run : (supply : Supply) (o : OpeningNote) (before : List Note) (modes : Modes) (instance : Option Text) → flat_map note_values before ≡ []
    → IsRun supply 0 (flat_map note_values (pending_outcome supply o before modes instance).notes)
pend_run supply o before modes instance none =
    subst (IsRun supply 0) (sym (pend_values supply o before modes instance none)) (refl, (refl, listed_run supply 2 (is_some modes.finish)))

nonce_drawn : (b : Bool) (x : Text) → option_to_list (some_if b (or_zeros 32 (some_if b x))) ≡ option_to_list (some_if b x)
nonce_drawn true x = refl
nonce_drawn false x = refl

pend_draws : (supply : Supply) (o : OpeningNote) (before : List Note) (modes : Modes) (instance : Option Text) → flat_map note_values before ≡ []
    → drawn_in (pending_outcome supply o before modes instance).reply ≡ flat_map note_values (pending_outcome supply o before modes instance).notes
pend_draws supply o before modes instance none =
    ap (λ (x : List Text). drawn_value supply 0 ∷ drawn_value supply 1 ∷ x) (nonce_drawn (is_some modes.finish) (drawn_value supply 2))
    ∙ sym (pend_values supply o before modes instance none)

reference_run : (supply : Supply) (r : RoundNote) (f : Option Finish)
    → reference_in (finish_of supply r f) ≡ option_to_list (some_if (is_some f) (drawn_value supply 0))
reference_run supply r None = refl
reference_run supply r (Some f) = refl

-- the notes of an action have the values of the entry, from the first on
pub outcome_run : (supply : Supply) (action : Action) → IsRun supply 0 (flat_map note_values (outcome_of supply action).notes)
outcome_run supply (OpenAtOnce o request) = grant_run supply o (Opened o ∷ Terms (terms_for o request) ∷ Approved o.grant [] ∷ []) request.asks request.single
    None (instance_of o) refl
outcome_run supply (OpenAsking o request modes) = pend_run supply o (Opened o ∷ Terms (terms_for o request) ∷ []) modes (instance_of o) refl
outcome_run supply (TakeDecision r rights request) = subst (IsRun supply 0)
    (sym (append-nil (option_to_list (some_if (is_some r.modes.finish) (drawn_value supply 0))))) (listed_run supply 0 (is_some r.modes.finish))
outcome_run supply (RenewDoor o) = (refl, tt)
outcome_run supply (CollectDecision o w d asks) = grant_run supply o (Approved o.grant d.rights ∷ []) asks w.single (if w.subject then d.subject else None) None
    refl
outcome_run supply (ModifyAtOnce o consent retired request) = grant_run supply o (retire retired ++ Terms (terms_for o request) ∷ Approved o.grant consent ∷ [])
    request.asks request.single None None (retired_none retired (Terms (terms_for o request) ∷ Approved o.grant consent ∷ []))
outcome_run supply (ModifyAsking o retired request modes) = pend_run supply o (retire retired ++ Terms (terms_for o request) ∷ []) modes None
    (retired_none retired (Terms (terms_for o request) ∷ []))
outcome_run supply (RotateToken o t key) = (refl, (refl, tt))
outcome_run supply (RevokeToken t true) = tt
outcome_run supply _ = tt

-- the reply of an action draws the values of its notes
pub outcome_draws : (supply : Supply) (action : Action) → drawn_in (outcome_of supply action).reply ≡ flat_map note_values (outcome_of supply action).notes
outcome_draws supply (OpenAtOnce o request) = grant_draws supply o (Opened o ∷ Terms (terms_for o request) ∷ Approved o.grant [] ∷ []) request.asks
    request.single None (instance_of o) refl
outcome_draws supply (OpenAsking o request modes) = pend_draws supply o (Opened o ∷ Terms (terms_for o request) ∷ []) modes (instance_of o) refl
outcome_draws supply (TakeDecision r rights request) = reference_run supply r r.modes.finish
    ∙ sym (append-nil (option_to_list (some_if (is_some r.modes.finish) (drawn_value supply 0))))
outcome_draws supply (CollectDecision o w d asks) = grant_draws supply o (Approved o.grant d.rights ∷ []) asks w.single (if w.subject then d.subject else None)
    None refl
outcome_draws supply (ModifyAtOnce o consent retired request) = grant_draws supply o
    (retire retired ++ Terms (terms_for o request) ∷ Approved o.grant consent ∷ []) request.asks request.single None None
    (retired_none retired (Terms (terms_for o request) ∷ Approved o.grant consent ∷ []))
outcome_draws supply (ModifyAsking o retired request modes) = pend_draws supply o (retire retired ++ Terms (terms_for o request) ∷ []) modes None
    (retired_none retired (Terms (terms_for o request) ∷ []))
outcome_draws supply (RevokeToken t true) = refl
outcome_draws supply _ = refl

-- ---- over histories

pub trail-onto : (notes trail : List Note) → trail_values (reverse notes ++ trail) ≡ reverse (flat_map note_values notes) ++ trail_values trail
trail-onto [] trail = refl
trail-onto (n ∷ notes) trail =
    ap trail_values (ap (λ (x : List Note). x ++ trail) (reverse-append (n ∷ []) notes) ∙ append_assoc (reverse notes) (n ∷ []) trail)
    ∙ trail-onto notes (n ∷ trail)
    ∙ sym (append_assoc (reverse (flat_map note_values notes)) (reverse (note_values n)) (trail_values trail))
    ∙ ap (λ (x : List Text). x ++ trail_values trail) (sym (reverse-append (note_values n) (flat_map note_values notes)))

-- the reply and the notes are those of an action
pub past_serialled : (rules : Setup) (past : List Event) → IsLegalPast rules past → IsSerialled (trail_values (trail_of past))
past_serialled rules [] legal = tt
past_serialled rules (e ∷ past) legal =
    let supply = supply_at past e.moment e.draw in
    let why = chosen rules past e legal.0 in
    let action = why.action in
    subst IsSerialled (sym (trail-onto e.notes (trail_of past)
    ∙ ap (λ (ns : List Note). reverse (flat_map note_values ns) ++ trail_values (trail_of past)) why.notes))
    (serialled_more supply 0 (flat_map note_values (outcome_of supply action).notes) (trail_values (trail_of past)) (outcome_run supply action) (omega arith)
    (past_serialled rules past legal.1))

pub past_draws : (rules : Setup) (past : List Event) → IsLegalPast rules past → drawn_by past ≡ trail_values (trail_of past)
past_draws rules [] legal = refl
past_draws rules (e ∷ past) legal =
    let supply = supply_at past e.moment e.draw in
    let why = chosen rules past e legal.0 in
    let action = why.action in
    let same : drawn_in e.reply ≡ flat_map note_values e.notes = ap drawn_in why.reply ∙ outcome_draws supply action
    ∙ ap (flat_map note_values) (sym why.notes) in
    ap (λ (x : List Text). reverse x ++ drawn_by past) same
    ∙ ap (λ (x : List Text). reverse (flat_map note_values e.notes) ++ x) (past_draws rules past legal.1)
    ∙ sym (trail-onto e.notes (trail_of past))

-- The values that replies draw differ, where fewer than 2 ^ 64 values were drawn
pub draws_distinct : (rules : Setup) (past : List Event) → IsLegalPast rules past → length (drawn_by past) < 2 ^ 64 → AreDistinct (drawn_by past)
draws_distinct rules past legal few =
    subst AreDistinct (sym (past_draws rules past legal))
    (serialled_distinct (trail_values (trail_of past)) (let e = ap (length {A = Text}) (past_draws rules past legal) in omega arith)
    (past_serialled rules past legal))
