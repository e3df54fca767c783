-- What is live is what came, by an induction over the entries.
use Rattle.std.proofs.Common.{ℕ, ◌≡◌, ◌<◌, ◌≤◌, ◌+◌, ◌*◌, ◌⊎◌, Bool, true, false, cond, List, [], ◌∷◌, ◌++◌, length, map, reverse, refl, sym, ◌∙◌, ap, subst, inl, inr, arith, append_assoc, append-nil, Option, Some, None}
use Rattle.std.specs.Option.{option_or, option_to_list}
use Rattle.std.specs.Prelude.{◌&&◌, ◌||◌, not, ◌==◌, nat_lt, if◌then◌else◌}
use Rattle.std.specs.List.{flat_map, list_any}
use Rattle.std.proofs.lemmas.List.{reverse-append, reverse-reverse}
use Rattle.std.proofs.lemmas.List.Sums.{sum_by-append}
use Rattle.std.proofs.lemmas.Bool.Decides.{Decides-eqb}
use Rattle.std.proofs.lemmas.Slice.Eq.{bytes_eq-Decides}
use Rattle.std.proofs.lemmas.Bool.{and_parts, eq-eqb, false_from_ne_true, le-ltb, lt-ltb, or_left, or_right}
use Rattle.std.proofs.lemmas.List.Folds.{list_any-append}
use Rattle.std.proofs.Math.Bool.{or-false}
use Rattle.gnap_model.specs.Common.{Text, same_text, Has, AreDistinct, first_of, some_if}
use Rattle.gnap_laws.specs.Types.{Right, Setup, Ask, Call, Reply, TokenOut, OpeningNote, TokenNote, TermsNote, Note}
use Rattle.gnap_model.specs.declared.calls.Call.TheVariants.{Rotate}
use Rattle.gnap_model.specs.declared.calls.Reply.TheVariants.{Granted, Rotated}
use Rattle.gnap_model.specs.Notes.{Event, note_values, trail_values, trail_of, first_serial}
use Rattle.gnap_model.specs.declared.notes.Note.TheVariants.{Opened, Terms, Approved, Issued, Door, Pended, Finalized, Retired}
use Rattle.gnap_model.specs.Standing.{door, door_in, state_change_in, is_end_of, is_retirement, next_grant, is_opening, is_live, is_approved, grant_state, is_finalized}
use Rattle.gnap_model.specs.Standing.StateChange.{ToApproved}
use Rattle.gnap_model.specs.Actions.{Action, Supply, outcome_of, drawn_value, grant_outcome, tokens_for, token_for, token_out, door_note, terms_for, instance_of, retire, round_for, successor}
use Rattle.gnap_model.specs.Actions.Action.{OpenAtOnce, OpenAsking, TakeDecision, RenewDoor, CollectDecision, WrongReference, LastWrongReference, RefuseAndFinalize, ModifyAtOnce, ModifyAsking, CancelGrant, RotateToken, RevokeToken}
use Rattle.gnap_model.specs.Answer.{supply_at}
use Rattle.gnap_model.specs.Legal.{IsLegalPast}
use Rattle.gnap_laws.specs.Provenance.{presented_door, handed_door, handed_tokens, is_among, chain_doors, origin_of, origin_in, has_manage, ends, is_ended, drawn_in, token_values}
use Rattle.gnap_laws.proofs.Causes.{chosen, Cause}
use Rattle.gnap_model.proofs.LookUps.{first_of-append, any-reverse}
use Rattle.gnap_laws.proofs.Doors.{distinct_apart, Has-append_left, Has-append_right, note_has}
use Rattle.gnap_laws.proofs.Serials.{outcome_draws, trail-onto, past_serialled}
use Rattle.gnap_laws.proofs.Once.{IsShort, short_before, distinct, door_last}
use Rattle.gnap_model.proofs.TrailNotes.{HasNote, note-append_right, note-append_left, note-reverse, any_noted, opening_noted, grant_named, managed_issued}
use Rattle.gnap_laws.proofs.AliveTokens.{IsAlive, EndsOrStays, alive_next, alive_after, grant_retires}
use Rattle.gnap_laws.proofs.Sound.{past_sound, one_serial, IsSound, SoundAt, AreSound, sound_note, names_known, modified_below, SerialsBelow, old_known, new_known}

-- the token was issued by the entry at the place
abbrev pub IssuedAt : List Event → ℕ → TokenNote → Type 0
IssuedAt [] p t = ⊥
IssuedAt (e ∷ past) p t = ((p ≡ length past) × HasNote e.notes (Issued t)) ⊎ IssuedAt past p t

pub issued_noted : (past : List Event) (p : ℕ) (t : TokenNote) → IssuedAt past p t → HasNote (trail_of past) (Issued t)
issued_noted [] p t h = absurd h
issued_noted (e ∷ past) p t (inl h) = note-append_left (reverse e.notes) (trail_of past) (Issued t) (note-reverse e.notes (Issued t) h.1)
issued_noted (e ∷ past) p t (inr h) = note-append_right (reverse e.notes) (trail_of past) (Issued t) (issued_noted past p t h)

pub place_low : (past : List Event) (p : ℕ) (t : TokenNote) → IssuedAt past p t → p < length past
place_low [] p t h = absurd h
place_low (e ∷ past) p t (inl h) = let k = h.0 in omega arith
place_low (e ∷ past) p t (inr h) = let k = place_low past p t h in omega arith

ended_none : (m : Text) (q p : ℕ) (past : List Event) → length past ≤ p → is_ended m q p past ≡ false
ended_none m q p [] h = refl
ended_none m q p (e ∷ past) h = ap (λ b. (b && ends m q past e) || is_ended m q p past) (le-ltb p (length past) (omega arith))
    ∙ ended_none m q p past (omega arith)

-- ---- origins

any_manage : (m : Text) (ts : List TokenOut) (rest : List Text) → list_any (has_manage m) ts ≡ true → Has (flat_map token_values ts ++ rest) m
any_manage m [] rest e = cc e
any_manage m (t ∷ ts) rest e = at (same_text t.manage m) refl e (any_manage m ts rest)
  where
    at : (b : Bool) → same_text t.manage m ≡ b → (b || list_any (has_manage m) ts) ≡ true
        → (list_any (has_manage m) ts ≡ true → Has (flat_map token_values ts ++ rest) m) → Has (flat_map token_values (t ∷ ts) ++ rest) m
    at true h k below = inr (inl (sym ((bytes_eq-Decides t.manage m).0 h)))
    at false h k below = inr (inr (below k))

handed_drawn : (m : Text) (r : Reply) → list_any (has_manage m) (handed_tokens r) ≡ true → Has (drawn_in r) m
handed_drawn m (Granted d ts single subject instance) e = any_manage m ts (d ∷ []) e
handed_drawn m (Rotated t) e = at (same_text t.manage m) refl e
  where
    at : (b : Bool) → same_text t.manage m ≡ b → (b || false) ≡ true → Has (t.value ∷ t.manage ∷ []) m
    at true h k = inr (inl (sym ((bytes_eq-Decides t.manage m).0 h)))
    at false h k = cc k
handed_drawn m _ e = cc e

has_reverse : (xs : List Text) (v : Text) → Has xs v → Has (reverse xs) v
has_reverse [] v h = absurd h
has_reverse (x ∷ xs) v (inl e) = subst (λ (l : List Text). Has l v) (sym (reverse-append (x ∷ []) xs)) (Has-append_right (reverse xs) (x ∷ []) v (inl e))
has_reverse (x ∷ xs) v (inr h) = subst (λ (l : List Text). Has l v) (sym (reverse-append (x ∷ []) xs))
    (Has-append_left (reverse xs) (x ∷ []) v (has_reverse xs v h))

-- an entry hands out no management value of an older token
not_handed : (rules : Setup) (e : Event) (past : List Event) (t : TokenNote) → IsLegalPast rules (e ∷ past) → IsShort (e ∷ past)
    → HasNote (trail_of past) (Issued t) → list_any (has_manage t.manage) (handed_tokens e.reply) ≡ false
not_handed rules e past t legal short h =
    let supply = supply_at past e.moment e.draw in
    let why = chosen rules past e legal.0 in
    let action = why.action in
    let same : drawn_in e.reply ≡ flat_map note_values e.notes = ap drawn_in why.reply ∙ outcome_draws supply action
    ∙ ap (flat_map note_values) (sym why.notes) in
    false_from_ne_true (list_any (has_manage t.manage) (handed_tokens e.reply))
    (λ k. distinct_apart (reverse (flat_map note_values e.notes)) (trail_values (trail_of past)) t.manage
    (subst AreDistinct (trail-onto e.notes (trail_of past)) (distinct rules (e ∷ past) legal short))
    (has_reverse (flat_map note_values e.notes) t.manage (subst (λ (l : List Text). Has l t.manage) same (handed_drawn t.manage e.reply k)))
    (note_has (trail_of past) (Issued t) t.manage h (inl refl)))

origin_old : (rules : Setup) (e : Event) (past : List Event) (t : TokenNote) → IsLegalPast rules (e ∷ past) → IsShort (e ∷ past)
    → HasNote (trail_of past) (Issued t) → origin_of (e ∷ past) t.manage ≡ origin_of past t.manage
origin_old rules e past t legal short h = ap (λ b. if b then origin_in e.call (length past) (λ value. origin_of past value) else origin_of past t.manage)
    (not_handed rules e past t legal short h)

-- ---- what becomes of a token

abbrev pub IsOver : List Note → TokenNote → Type 0
IsOver trail t = (list_any (is_retirement t.serial) trail || list_any (is_end_of t.grant) trail) ≡ true

abbrev pub EndedOrAliveFrom : List Event → ℕ → TokenNote → ℕ → Type 0
EndedOrAliveFrom past p t q =
    ((is_ended t.manage q p past ≡ true) × IsOver (trail_of past) t)
    ⊎ ((is_ended t.manage q p past ≡ false) × (q < length past) × IsAlive (trail_of past) (chain_doors q past) t)

abbrev pub EndedOrAlive : List Event → ℕ → TokenNote → Type 0
EndedOrAlive past p t = EndedOrAliveFrom past p t (origin_of past t.manage)

or_four : (a b c d : Bool) → ((a || b) ≡ true) ⊎ ((c || d) ≡ true) → ((a || c) || (b || d)) ≡ true
or_four true b c d h = refl
or_four false true true d h = refl
or_four false true false d h = refl
or_four false false c d (inl h) = cc h
or_four false false c d (inr h) = h

over_more : (new trail : List Note) (t : TokenNote) → ((list_any (is_retirement t.serial) new || list_any (is_end_of t.grant) new) ≡ true) ⊎ IsOver trail t
    → IsOver (new ++ trail) t
over_more new trail t h =
    ap (λ b. b || list_any (is_end_of t.grant) (new ++ trail)) (list_any-append (is_retirement t.serial) new trail)
    ∙ ap (λ b. (list_any (is_retirement t.serial) new || list_any (is_retirement t.serial) trail) || b) (list_any-append (is_end_of t.grant) new trail)
    ∙ or_four (list_any (is_retirement t.serial) new) (list_any (is_end_of t.grant) new) (list_any (is_retirement t.serial) trail)
    (list_any (is_end_of t.grant) trail) h

-- an older token after one more entry
old_ended_or_alive : (rules : Setup) (e : Event) (past : List Event) (p q : ℕ) (t : TokenNote) → IsLegalPast rules (e ∷ past) → IsShort (e ∷ past)
    → p < length past → EndedOrAliveFrom past p t q → EndedOrAliveFrom (e ∷ past) p t q
old_ended_or_alive rules e past p q t legal short low (inl (ended, over)) =
    inl (
      or_right (nat_lt p (length past) && ends t.manage q past e) (is_ended t.manage q p past) ended,
      over_more (reverse e.notes) (trail_of past) t
          (inr over),
    )
old_ended_or_alive rules e past p q t legal short low (inr (not_ended, q_low, alive)) =
    let supply = supply_at past e.moment e.draw in
    let why = chosen rules past e legal.0 in
    let action = why.action in
    let before = short_before e past short in
    let d = distinct rules past legal.1 before in
    let one = one_serial (trail_of past) (past_serialled rules past legal.1) before d (past_sound rules past legal.1) in
    let on = is_among (chain_doors q past) (presented_door e.call) in
    let made : EndsOrStays e.call (outcome_of supply action).reply (outcome_of supply action).notes on t.manage t.grant t.serial
    = alive_next supply (trail_of past) e.call action (chain_doors q past) t d one alive why.cause in
    let goes : EndsOrStays e.call e.reply e.notes on t.manage t.grant t.serial
    = subst (λ (ns : List Note). EndsOrStays e.call e.reply ns on t.manage t.grant t.serial) (sym why.notes)
    (subst (λ (r : Reply). EndsOrStays e.call r (outcome_of supply action).notes on t.manage t.grant t.serial) (sym why.reply) made) in
    at goes
  where
    other_place : (length past == q) ≡ false
    other_place = false_from_ne_true (length past == q) (λ h. let k : length past ≡ q = (Decides-eqb (length past) q).0 h in omega arith)

    tested : nat_lt p (length past) ≡ true
    tested = lt-ltb p (length past) low

    at : EndsOrStays e.call e.reply e.notes (is_among (chain_doors q past) (presented_door e.call)) t.manage t.grant t.serial
        → EndedOrAliveFrom (e ∷ past) p t q
    at (inl (ended, over)) =
        inl (
          or_left (nat_lt p (length past) && ends t.manage q past e) (is_ended t.manage q p past) (ap (λ b. b && ends t.manage q past e) tested ∙ ended),
          over_more (reverse e.notes) (trail_of past) t (inl over),
        )
    at (inr (stays_false, stays)) =
        inr (
          ap (λ b. (b && ends t.manage q past e) || is_ended t.manage q p past) tested ∙ ap (λ b. b || is_ended t.manage q p past) stays_false ∙ not_ended,
          omega arith,
          subst (λ (chain : List Text). IsAlive (trail_of (e ∷ past)) chain t)
              (ap (λ b. if b || is_among (chain_doors q past) (presented_door e.call) then option_to_list (handed_door e.reply)
              ++ chain_doors q past else chain_doors q past) (sym other_place))
              (alive_after e.reply e.notes (trail_of past) (is_among (chain_doors q past) (presented_door e.call)) (chain_doors q past) t alive stays),
        )

-- ---- new tokens

chain_none : (place : ℕ) (past : List Event) → length past ≤ place → chain_doors place past ≡ []
chain_none place [] h = refl
chain_none place (e ∷ past) h =
    let low = chain_none place past (omega arith) in
    let other : (length past == place)
    ≡ false = false_from_ne_true (length past == place) (λ k. let j : length past ≡ place = (Decides-eqb (length past) place).0 k in omega arith) in
    ap (λ b. if b || is_among (chain_doors place past) (presented_door e.call) then option_to_list (handed_door e.reply)
    ++ chain_doors place past else chain_doors place past) other
    ∙ ap (λ (c : List Text). if is_among c (presented_door e.call) then option_to_list (handed_door e.reply) ++ c else c) low
    ∙ none (presented_door e.call)
  where
    none : (o : Option Text) → (if is_among [] o then option_to_list (handed_door e.reply) ++ [] else []) ≡ []
    none None = refl
    none (Some v) = refl

chain_here : (e : Event) (past : List Event) → chain_doors (length past) (e ∷ past) ≡ option_to_list (handed_door e.reply)
chain_here e past =
    ap (λ b. if b || is_among (chain_doors (length past) past) (presented_door e.call) then option_to_list (handed_door e.reply)
    ++ chain_doors (length past) past else chain_doors (length past) past) (eq-eqb (length past) (length past) refl)
    ∙ ap (λ (c : List Text). option_to_list (handed_door e.reply) ++ c) (chain_none (length past) past (omega arith))
    ∙ append-nil (option_to_list (handed_door e.reply))

pub token_born : (supply : Supply) (o : OpeningNote) (asks : List Ask) (k : ℕ) (t : TokenNote) → HasNote (map Issued (tokens_for supply o asks k)) (Issued t)
    → (t.grant ≡ o.grant) × (supply.first ≤ t.serial)
token_born supply o [] k t h = absurd h
token_born supply o (ask ∷ asks) k t (inl e) =
    let is : t ≡ token_for supply o ask k = cc e in
    let s : t.serial ≡ supply.first + k = ap (λ (u : TokenNote). u.serial) is in
    (ap (λ (u : TokenNote). u.grant) is, omega arith)
token_born supply o (ask ∷ asks) k t (inr h) = token_born supply o asks (k + 2) t h

shown_any : (now : ℕ) (ts : List TokenNote) (t : TokenNote) → HasNote (map Issued ts) (Issued t)
    → list_any (has_manage t.manage) (map (token_out now) ts) ≡ true
shown_any now [] t h = absurd h
shown_any now (u ∷ ts) t (inl e) =
    let is : t ≡ u = cc e in
    or_left (same_text u.manage t.manage) (list_any (has_manage t.manage) (map (token_out now) ts))
    ((bytes_eq-Decides u.manage t.manage).1 (ap (λ (x : TokenNote). x.manage) (sym is)))
shown_any now (u ∷ ts) t (inr h) = or_right (same_text u.manage t.manage) (list_any (has_manage t.manage) (map (token_out now) ts)) (shown_any now ts t h)

abbrev pub HasNoToken : List Note → Type 0
HasNoToken ns = (t : TokenNote) → HasNote ns (Issued t) → ⊥

pub note_cases : (xs ys : List Note) (n : Note) → HasNote (xs ++ ys) n → HasNote xs n ⊎ HasNote ys n
note_cases [] ys n h = inr h
note_cases (x ∷ xs) ys n (inl e) = inl (inl e)
note_cases (x ∷ xs) ys n (inr h) = elim (note_cases xs ys n h) [ inl a ↦ inl (inr a) | inr b ↦ inr b ]

pub grant_token : (supply : Supply) (o : OpeningNote) (before : List Note) (asks : List Ask) (single : Bool) (subject instance : Option Text) (t : TokenNote)
    → HasNoToken before
    → HasNote (grant_outcome supply o before asks single subject instance).notes (Issued t) → HasNote (map Issued (tokens_for supply o asks 0)) (Issued t)
grant_token supply o before asks single subject instance t none h = elim
    (note_cases (before ++ map Issued (tokens_for supply o asks 0)) (door_note supply o _ ∷ []) (Issued t) h) [
      | inl a ↦ elim (note_cases before (map Issued (tokens_for supply o asks 0)) (Issued t) a) [ inl x ↦ absurd (none t x) | inr y ↦ y ]
      | inr b ↦ absurd (no_door b)
    ]
  where
    no_door : HasNote (door_note supply o (2 * length asks) ∷ []) (Issued t) → ⊥
    no_door (inl e) = cc e
    no_door (inr x) = x

-- a front of notes: no token, no retirement of a serial from first on, no end; and an approval is its last change of state
pub record IsFront (supply : Supply) (o : OpeningNote) (before : List Note) : Type 0 where
  pub no_token : HasNoToken before
  pub kept : (s : ℕ) → supply.first ≤ s → list_any (is_retirement s) before ≡ false
  pub unended : list_any (is_end_of o.grant) before ≡ false
  pub approved : first_of (state_change_in o.grant) (reverse before) ≡ Some ToApproved

issued_unended : (g : ℕ) (ts : List TokenNote) → list_any (is_end_of g) (map Issued ts) ≡ false
issued_unended g [] = refl
issued_unended g (t ∷ ts) = issued_unended g ts

issued_change : (g : ℕ) (ts : List TokenNote) (rest : List Note)
    → first_of (state_change_in g) (reverse (map Issued ts) ++ rest) ≡ first_of (state_change_in g) rest
issued_change g [] rest = refl
issued_change g (t ∷ ts) rest =
    ap (λ (x : List Note). first_of (state_change_in g) (x ++ rest)) (reverse-append (Issued t ∷ []) (map Issued ts))
    ∙ ap (first_of (state_change_in g)) (append_assoc (reverse (map Issued ts)) (Issued t ∷ []) rest)
    ∙ issued_change g ts (Issued t ∷ rest)

grant_change : (supply : Supply) (o : OpeningNote) (before : List Note) (asks : List Ask) (single : Bool) (subject instance : Option Text)
    → IsFront supply o before
    → first_of (state_change_in o.grant) (reverse (grant_outcome supply o before asks single subject instance).notes) ≡ Some ToApproved
grant_change supply o before asks single subject instance front =
    ap (first_of (state_change_in o.grant)) (reverse-append (before ++ map Issued (tokens_for supply o asks 0)) (door_note supply o (2 * length asks) ∷ []))
    ∙ ap (first_of (state_change_in o.grant)) (reverse-append before (map Issued (tokens_for supply o asks 0)))
    ∙ issued_change o.grant (tokens_for supply o asks 0) (reverse before) ∙ front.approved

grant_unended : (supply : Supply) (o : OpeningNote) (before : List Note) (asks : List Ask) (single : Bool) (subject instance : Option Text)
    → IsFront supply o before
    → list_any (is_end_of o.grant) (grant_outcome supply o before asks single subject instance).notes ≡ false
grant_unended supply o before asks single subject instance front =
    list_any-append (is_end_of o.grant) (before ++ map Issued (tokens_for supply o asks 0)) (door_note supply o (2 * length asks) ∷ [])
    ∙ or-false (list_any (is_end_of o.grant) (before ++ map Issued (tokens_for supply o asks 0)))
    ∙ list_any-append (is_end_of o.grant) before (map Issued (tokens_for supply o asks 0))
    ∙ ap (λ b. list_any (is_end_of o.grant) before || b) (issued_unended o.grant (tokens_for supply o asks 0)) ∙ or-false (list_any (is_end_of o.grant) before)
    ∙ front.unended

-- a token is alive as it is granted
grant_alive : (supply : Supply) (o : OpeningNote) (before trail : List Note) (asks : List Ask) (single : Bool) (subject instance : Option Text) (t : TokenNote)
    → IsFront supply o before
    → ((s : ℕ) → supply.first ≤ s → list_any (is_retirement s) trail ≡ false) → list_any (is_end_of o.grant) trail ≡ false
    → o.grant < next_grant (reverse (grant_outcome supply o before asks single subject instance).notes ++ trail)
    → HasNote (grant_outcome supply o before asks single subject instance).notes (Issued t)
    → IsAlive (reverse (grant_outcome supply o before asks single subject instance).notes ++ trail) (drawn_value supply (2 * length asks) ∷ []) t
grant_alive supply o before trail asks single subject instance t front kept unended known h =
    let notes = (grant_outcome supply o before asks single subject instance).notes in
    let born = token_born supply o asks 0 t (grant_token supply o before asks single subject instance t front.no_token h) in
    let w = drawn_value supply (2 * length asks) in
    let on_g : (g : ℕ) → g ≡ o.grant → (d : Text) → door (reverse notes ++ trail) g ≡ Some d → d ≡ w
    = (λ g e d k. let k' : door (reverse notes ++ trail) o.grant ≡ Some d = subst (λ (x : ℕ). door (reverse notes ++ trail) x ≡ Some d) e k in
    let j = sym (door_now d) ∙ k' in cc j) in
    record {
      issued = note-append_left (reverse notes) trail (Issued t) (note-reverse notes (Issued t) h);
      known = (let e = born.0 in omega arith);
      kept = list_any-append (is_retirement t.serial) (reverse notes) trail
          ∙ ap (λ b. b || list_any (is_retirement t.serial) trail)
          (any-reverse (is_retirement t.serial) notes ∙ grant_retires supply o before asks single subject instance t.serial ∙ front.kept t.serial born.1)
          ∙ kept t.serial born.1;
      unended = list_any-append (is_end_of t.grant) (reverse notes) trail
          ∙ ap (λ b. b || list_any (is_end_of t.grant) trail)
          (any-reverse (is_end_of t.grant) notes ∙ ap (λ g. list_any (is_end_of g) notes) born.0
          ∙ grant_unended supply o before asks single subject instance front)
          ∙ ap (λ g. list_any (is_end_of g) trail) born.0 ∙ unended;
      approved = first_of-append (state_change_in t.grant) (reverse notes) trail
          ∙ ap (λ r. option_or r (first_of (state_change_in t.grant) trail))
          (ap (λ g. first_of (state_change_in g) (reverse notes)) born.0 ∙ grant_change supply o before asks single subject instance front);
      chain_has = λ d k. inl (on_g t.grant born.0 d k);
      chain_of = λ d k. elim k [
        | inl e ↦ (
          supply.now + 5,
          subst (λ (n : Note). HasNote (reverse notes ++ trail) n) (door_same born.0 d e)
              (note-append_left (reverse notes) trail (door_note supply o (2 * length asks)) (note-reverse notes (door_note supply o (2 * length asks))
              (note-append_right (before ++ map Issued (tokens_for supply o asks 0)) (door_note supply o (2 * length asks) ∷ [])
              (door_note supply o (2 * length asks)) (inl refl)))),
        )
        | inr x ↦ absurd x
      ];
    }
  where
    door_now : (d : Text) → door (reverse (grant_outcome supply o before asks single subject instance).notes ++ trail) o.grant
        ≡ Some (drawn_value supply (2 * length asks))
    door_now d = first_of-append (door_in o.grant) (reverse (grant_outcome supply o before asks single subject instance).notes) trail
        ∙ ap (λ r. option_or r (door trail o.grant))
        (door_last o.grant (supply.now + 5) (drawn_value supply (2 * length asks)) (before ++ map Issued (tokens_for supply o asks 0)))

    door_same : t.grant ≡ o.grant → (d : Text) → d ≡ drawn_value supply (2 * length asks)
        → door_note supply o (2 * length asks) ≡ Door t.grant d (supply.now + 5)
    door_same e d f = cc (e, f)

-- ---- a token that was just granted

granted_ended_or_alive : (e : Event) (past : List Event) (supply : Supply) (o : OpeningNote) (before : List Note) (asks : List Ask) (single : Bool)
    (subject instance : Option Text) (t : TokenNote)
    → e.reply ≡ (grant_outcome supply o before asks single subject instance).reply
    → e.notes ≡ (grant_outcome supply o before asks single subject instance).notes
    → ((from : Text → ℕ) → origin_in e.call (length past) from ≡ length past)
    → IsFront supply o before → ((s : ℕ) → supply.first ≤ s → list_any (is_retirement s) (trail_of past) ≡ false)
    → list_any (is_end_of o.grant) (trail_of past) ≡ false
    → o.grant < next_grant (trail_of (e ∷ past)) → HasNote e.notes (Issued t) → EndedOrAlive (e ∷ past) (length past) t
granted_ended_or_alive e past supply o before asks single subject instance t reply notes origin front kept unended known h =
    let g = grant_outcome supply o before asks single subject instance in
    let h' : HasNote g.notes (Issued t) = subst (λ (ns : List Note). HasNote ns (Issued t)) notes h in
    let handed : list_any (has_manage t.manage) (handed_tokens e.reply) ≡ true
    = ap (λ r. list_any (has_manage t.manage) (handed_tokens r)) reply
    ∙ shown_any supply.now (tokens_for supply o asks 0) t (grant_token supply o before asks single subject instance t front.no_token h') in
    let q : origin_of (e ∷ past) t.manage ≡ length past
    = ap (λ b. if b then origin_in e.call (length past) (λ value. origin_of past value) else origin_of past t.manage) handed
    ∙ origin (λ value. origin_of past value) in
    let known' : o.grant < next_grant (reverse g.notes ++ trail_of past) = subst (λ (ns : List Note). o.grant < next_grant (reverse ns ++ trail_of past)) notes
    known in
    let alive = grant_alive supply o before (trail_of past) asks single subject instance t front kept unended known' h' in
    let chain : drawn_value supply (2 * length asks) ∷ []
    ≡ chain_doors (length past) (e ∷ past) = sym (chain_here e past ∙ ap (λ r. option_to_list (handed_door r)) reply) in
    let alive' : IsAlive (trail_of (e ∷ past)) (chain_doors (length past) (e ∷ past)) t
    = subst (λ (c : List Text). IsAlive (trail_of (e ∷ past)) c t) chain
    (subst (λ (ns : List Note). IsAlive (reverse ns ++ trail_of past) (drawn_value supply (2 * length asks) ∷ []) t) (sym notes) alive) in
    subst (EndedOrAliveFrom (e ∷ past) (length past) t) (sym q) (inr (ended_here e past t (length past), omega arith, alive'))
  where
    ended_here : (e : Event) (past : List Event) (t : TokenNote) (q : ℕ) → is_ended t.manage q (length past) (e ∷ past) ≡ false
    ended_here e past t q = ap (λ b. (b && ends t.manage q past e) || is_ended t.manage q (length past) past) (le-ltb (length past) (length past) (omega arith))
        ∙ ended_none t.manage q (length past) past (omega arith)

-- ---- what soundness says

retired_low : (g s r : ℕ) (ns : List Note) → AreSound g s ns → list_any (is_retirement r) ns ≡ true → r < s
retired_low g s r ns h e = let n = any_noted (is_retirement r) ns e in at n.0 n.2 (sound_note g s ns n.0 h n.1)
  where
    at : (n : Note) → is_retirement r n ≡ true → SoundAt g s n → r < s
    at (Retired x why) k p = let j : x ≡ r = (Decides-eqb x r).0 k in omega arith
    at _ k p = cc k

ended_low : (g s i : ℕ) (ns : List Note) → AreSound g s ns → list_any (is_end_of i) ns ≡ true → i < g
ended_low g s i ns h e = let n = any_noted (is_end_of i) ns e in at n.0 n.2 (sound_note g s ns n.0 h n.1)
  where
    at : (n : Note) → is_end_of i n ≡ true → SoundAt g s n → i < g
    at (Finalized x) k p = let j : x ≡ i = (Decides-eqb x i).0 k in omega arith
    at _ k p = cc k

kept_in : (trail : List Note) (s : ℕ) → IsSound trail → first_serial trail ≤ s → list_any (is_retirement s) trail ≡ false
kept_in trail s sound low = false_from_ne_true (list_any (is_retirement s) trail)
    (λ e. let k : s < first_serial trail = retired_low (next_grant trail) (first_serial trail) s trail sound e in omega arith)

not_ended : (trail : List Note) (g now : ℕ) → not (is_finalized (grant_state trail g now)) ≡ true → list_any (is_end_of g) trail ≡ false
not_ended trail g now h = at (list_any (is_end_of g) trail) refl
  where
    at : (b : Bool) → list_any (is_end_of g) trail ≡ b → list_any (is_end_of g) trail ≡ false
    at false e = e
    at true e = let k : not (is_finalized (grant_state trail g now)) ≡ false = (rw e refl) in let j = sym h ∙ k in cc j

origin_door : (call : Call) (v : Text) (place : ℕ) (from : Text → ℕ) → presented_door call ≡ Some v → origin_in call place from ≡ place
origin_door (Rotate key value new_key) v place from e = cc e
origin_door _ v place from e = refl

pub noted_issued : (past : List Event) (t : TokenNote) → HasNote (trail_of past) (Issued t) → (p : ℕ) × IssuedAt past p t
noted_issued [] t h = absurd h
noted_issued (e ∷ past) t h = elim (note_cases (reverse e.notes) (trail_of past) (Issued t) h) [
  | inl a ↦ (length past, inl (refl, subst (λ (ns : List Note). HasNote ns (Issued t)) (reverse-reverse e.notes) (note-reverse (reverse e.notes) (Issued t) a)))
  | inr b ↦ let r = noted_issued past t b in (r.0, inr r.1)
]

-- a live token isn't over
pub live_not_over : (trail : List Note) (now : ℕ) (u : TokenNote) → is_live trail now u ≡ true → IsOver trail u → ⊥
live_not_over trail now u live over =
    let both = and_parts (not (list_any (is_retirement u.serial) trail) && nat_lt now u.until) (is_approved (grant_state trail u.grant now)) live in
    let kept = (and_parts (not (list_any (is_retirement u.serial) trail)) (nat_lt now u.until) both.0).0 in
    at (list_any (is_retirement u.serial) trail) (list_any (is_end_of u.grant) trail) refl kept over
  where
    approved : is_approved (grant_state trail u.grant now) ≡ true
    approved = (and_parts (not (list_any (is_retirement u.serial) trail) && nat_lt now u.until) (is_approved (grant_state trail u.grant now)) live).1

    at : (a b : Bool) → list_any (is_end_of u.grant) trail ≡ b → not a ≡ true → (a || b) ≡ true → ⊥
    at true b e k o = cc k
    at false false e k o = cc o
    at false true e k o = let j : is_approved (grant_state trail u.grant now) ≡ false = (rw e refl) in let i = sym approved ∙ j in cc i

-- a rotated token's successor is alive on the chain of the old one
successor_alive : (supply : Supply) (o : OpeningNote) (u : TokenNote) (key : Text) (trail : List Note) (chain : List Text) → IsAlive trail chain u
    → o.grant ≡ u.grant → u.serial < supply.first → ((s : ℕ) → supply.first ≤ s → list_any (is_retirement s) trail ≡ false)
    → IsAlive (reverse (outcome_of supply (RotateToken o u key)).notes ++ trail) chain (successor supply o u key)
successor_alive supply o u key trail chain alive e low kept = record {
  issued = inl refl;
  known = (let k = sum_by-append (λ (n : Note). cond (is_opening n) 1 0) (reverse (outcome_of supply (RotateToken o u key)).notes) trail in let h =
      alive.known in omega arith);
  kept = ap (λ b. b || list_any (is_retirement (supply.first + 0)) trail)
      (false_from_ne_true (u.serial == supply.first + 0)
      (λ k. let j : u.serial ≡ supply.first + 0 = (Decides-eqb u.serial (supply.first + 0)).0 k in omega arith)) ∙ kept (supply.first + 0) (omega arith);
  unended = ap (λ g. list_any (is_end_of g) trail) e ∙ alive.unended;
  approved = ap (λ g. first_of (state_change_in g) trail) e ∙ alive.approved;
  chain_has = λ d k. alive.chain_has d (ap (λ g. door trail g) (sym e) ∙ k);
  chain_of = λ d k. let r = alive.chain_of d k in (r.0, inr (inr (subst (λ (g : ℕ). HasNote trail (Door g d r.0)) (sym e) r.1)));
}

-- ---- each new token

abbrev pub IsNotToken : Note → Type 0
IsNotToken (Issued t) = ⊥
IsNotToken _ = Unit {0}

abbrev pub AreNotTokens : List Note → Type 0
AreNotTokens [] = Unit {0}
AreNotTokens (n ∷ ns) = IsNotToken n × AreNotTokens ns

pub not_tokens : (ns : List Note) → AreNotTokens ns → HasNoToken ns
not_tokens [] h t k = k
not_tokens (n ∷ ns) h t (inl e) = subst IsNotToken (sym e) h.0
not_tokens (n ∷ ns) h t (inr k) = not_tokens ns h.1 t k

pub retire_not_tokens : (ts : List TokenNote) (rest : List Note) → AreNotTokens rest → AreNotTokens (retire ts ++ rest)
retire_not_tokens [] rest h = h
retire_not_tokens (t ∷ ts) rest h = (tt, retire_not_tokens ts rest h)

retire_kept : (first s : ℕ) (ts : List TokenNote) → SerialsBelow first ts → first ≤ s → list_any (is_retirement s) (retire ts) ≡ false
retire_kept first s [] h l = refl
retire_kept first s (t ∷ ts) h l =
    ap (λ b. b || list_any (is_retirement s) (retire ts))
    (false_from_ne_true (t.serial == s) (λ k. let j : t.serial ≡ s = (Decides-eqb t.serial s).0 k in let m : t.serial < first = h.0 in omega arith))
    ∙ retire_kept first s ts h.1 l

retire_unended : (g : ℕ) (ts : List TokenNote) → list_any (is_end_of g) (retire ts) ≡ false
retire_unended g [] = refl
retire_unended g (t ∷ ts) = retire_unended g ts

change_front : (supply : Supply) (o : OpeningNote) (consent : List Right) (ts : List TokenNote) (w : TermsNote) → SerialsBelow supply.first ts
    → IsFront supply o (retire ts ++ Terms w ∷ Approved o.grant consent ∷ [])
change_front supply o consent ts w below = record {
  no_token = not_tokens (retire ts ++ Terms w ∷ Approved o.grant consent ∷ []) (retire_not_tokens ts (Terms w ∷ Approved o.grant consent ∷ []) (tt, (tt, tt)));
  kept = λ s l. list_any-append (is_retirement s) (retire ts) (Terms w ∷ Approved o.grant consent ∷ []) ∙ or-false (list_any (is_retirement s) (retire ts))
      ∙ retire_kept supply.first s ts below l;
  unended = list_any-append (is_end_of o.grant) (retire ts) (Terms w ∷ Approved o.grant consent ∷ []) ∙ or-false (list_any (is_end_of o.grant) (retire ts))
      ∙ retire_unended o.grant ts;
  approved = ap (first_of (state_change_in o.grant)) (reverse-append (retire ts) (Terms w ∷ Approved o.grant consent ∷ []))
      ∙ ap (λ b. option_or (some_if b ToApproved) (first_of (state_change_in o.grant) (Terms w ∷ reverse (retire ts)))) (eq-eqb o.grant o.grant refl);
}

action_ended_or_alive : (e : Event) (past : List Event) (supply : Supply) (action : Action) (t : TokenNote) → IsSound (trail_of past)
    → supply.first ≡ first_serial (trail_of past)
    → e.reply ≡ (outcome_of supply action).reply → e.notes ≡ (outcome_of supply action).notes → Cause (trail_of past) supply.now e.call action
    → ((p : ℕ) (u : TokenNote) → IssuedAt past p u → EndedOrAlive past p u)
    → ((u : TokenNote) → HasNote (trail_of past) (Issued u) → list_any (has_manage u.manage) (handed_tokens e.reply) ≡ false)
    → HasNote (outcome_of supply action).notes (Issued t) → EndedOrAlive (e ∷ past) (length past) t
action_ended_or_alive e past supply (TakeDecision r rights request) t sound first reply notes a ih fresh h = absurd
    (not_tokens (outcome_of supply (TakeDecision r rights request)).notes (tt, tt) t h)
action_ended_or_alive e past supply (OpenAtOnce o request) t sound first reply notes a ih fresh h =
    let before : List Note = Opened o ∷ Terms (terms_for o request) ∷ Approved o.grant [] ∷ [] in
    granted_ended_or_alive e past supply o before request.asks request.single None (instance_of o) t reply notes
    (λ from. ap (λ c. origin_in c (length past) from) a.1.2)
    (record {
      no_token = not_tokens before (tt, (tt, (tt, tt)));
      kept = λ s l. refl;
      unended = refl;
      approved = ap (λ b. option_or (some_if b ToApproved) None)
          (eq-eqb o.grant o.grant refl);
    })
    (λ s l. kept_in (trail_of past) s sound (omega arith))
    (false_from_ne_true (list_any (is_end_of o.grant) (trail_of past))
    (λ k. let j : o.grant < next_grant (trail_of past) = ended_low (next_grant (trail_of past)) (first_serial (trail_of past)) o.grant (trail_of past) sound
    k in let i = a.2 in omega arith))
    (new_known (outcome_of supply (OpenAtOnce o request)).notes (trail_of past) o a.2 (inl refl) (next_grant (trail_of (e ∷ past)))
    (let k = ap (λ (ns : List Note). next_grant (reverse ns ++ trail_of past)) notes in omega arith))
    (subst (λ (ns : List Note). HasNote ns (Issued t)) (sym notes) h)
action_ended_or_alive e past supply (OpenAsking o request modes) t sound first reply notes a ih fresh h = absurd
    (not_tokens (outcome_of supply (OpenAsking o request modes)).notes (tt, (tt, (tt, (tt, tt)))) t h)
action_ended_or_alive e past supply (RenewDoor o) t sound first reply notes a ih fresh h = absurd
    (not_tokens (outcome_of supply (RenewDoor o)).notes (tt, tt) t h)
action_ended_or_alive e past supply (CollectDecision o w d asks) t sound first reply notes a ih fresh h =
    let before : List Note = Approved o.grant d.rights ∷ [] in
    granted_ended_or_alive e past supply o before asks w.single (if w.subject then d.subject else None) None t reply notes
    (λ from. origin_door e.call a.0.0 (length past) from a.0.1)
    (record {
      no_token = not_tokens before (tt, tt);
      kept = λ s l. refl;
      unended = refl;
      approved = ap (λ b. option_or (some_if b ToApproved) None)
          (eq-eqb o.grant o.grant refl);
    })
    (λ s l. kept_in (trail_of past) s sound (omega arith))
    (not_ended (trail_of past) o.grant supply.now (grant_named (trail_of past) supply.now a.0.0 o a.0.2).goes_on)
    (old_known (outcome_of supply (CollectDecision o w d asks)).notes (trail_of past) o (names_known (trail_of past) supply.now e.call o sound a.0)
    (next_grant (trail_of (e ∷ past))) (let k = ap (λ (ns : List Note). next_grant (reverse ns ++ trail_of past)) notes in omega arith))
    (subst (λ (ns : List Note). HasNote ns (Issued t)) (sym notes) h)
action_ended_or_alive e past supply (WrongReference o) t sound first reply notes a ih fresh h = absurd
    (not_tokens (outcome_of supply (WrongReference o)).notes (tt, tt) t h)
action_ended_or_alive e past supply (LastWrongReference o) t sound first reply notes a ih fresh h = absurd
    (not_tokens (outcome_of supply (LastWrongReference o)).notes (tt, (tt, tt)) t h)
action_ended_or_alive e past supply (RefuseAndFinalize o code) t sound first reply notes a ih fresh h = absurd
    (not_tokens (outcome_of supply (RefuseAndFinalize o code)).notes (tt, tt) t h)
action_ended_or_alive e past supply (ModifyAtOnce o consent retired request) t sound first reply notes a ih fresh h =
    granted_ended_or_alive e past supply o (retire retired ++ Terms (terms_for o request) ∷ Approved o.grant consent ∷ []) request.asks request.single None None
    t reply notes
    (λ from. origin_door e.call a.0.0 (length past) from a.0.1)
    (change_front supply o consent retired (terms_for o request) (modified_below (trail_of past) supply.now o retired supply.first sound a.2 (omega arith)))
    (λ s l. kept_in (trail_of past) s sound (omega arith))
    (not_ended (trail_of past) o.grant supply.now (grant_named (trail_of past) supply.now a.0.0 o a.0.2).goes_on)
    (old_known (outcome_of supply (ModifyAtOnce o consent retired request)).notes (trail_of past) o (names_known (trail_of past) supply.now e.call o sound a.0)
    (next_grant (trail_of (e ∷ past))) (let k = ap (λ (ns : List Note). next_grant (reverse ns ++ trail_of past)) notes in omega arith))
    (subst (λ (ns : List Note). HasNote ns (Issued t)) (sym notes) h)
action_ended_or_alive e past supply (ModifyAsking o retired request modes) t sound first reply notes a ih fresh h =
    absurd (elim (note_cases (retire retired ++ Terms (terms_for o request) ∷ []) (door_note supply o 0 ∷ Pended (round_for supply o modes) ∷ []) (Issued t) h) [
      | inl x ↦ not_tokens (retire retired ++ Terms (terms_for o request) ∷ []) (retire_not_tokens retired (Terms (terms_for o request) ∷ []) (tt, tt)) t x
      | inr y ↦ not_tokens (door_note supply o 0 ∷ Pended (round_for supply o modes) ∷ []) (tt, (tt, tt)) t y
    ])
action_ended_or_alive e past supply (CancelGrant o) t sound first reply notes a ih fresh h = absurd
    (not_tokens (outcome_of supply (CancelGrant o)).notes (tt, tt) t h)
action_ended_or_alive e past supply (RotateToken o u key) t sound first reply notes a ih fresh h =
    let found = managed_issued (trail_of past) supply.now a.1.0 u a.1.2 in
    let at_p = noted_issued (past) u found.0 in
    let is : t ≡ successor supply o u key = successor_is h in
    let v : a.1.0 ≡ u.manage = sym found.1 in
    let handed : list_any (has_manage (drawn_value supply 1)) (handed_tokens e.reply) ≡ true
    = ap (λ r. list_any (has_manage (drawn_value supply 1)) (handed_tokens r)) reply
    ∙ or_left (same_text (drawn_value supply 1) (drawn_value supply 1)) false ((bytes_eq-Decides (drawn_value supply 1) (drawn_value supply 1)).1 refl) in
    let q : origin_of (e ∷ past) (drawn_value supply 1) ≡ origin_of past u.manage
    = ap (λ b. if b then origin_in e.call (length past) (λ value. origin_of past value) else origin_of past (drawn_value supply 1)) handed
    ∙ a.4 (length past) (λ value. origin_of past value) a.1.0 a.1.1 ∙ ap (origin_of past) v in
    let ended_or_alive : EndedOrAlive (e ∷ past) (length past) (successor supply o u key)
    = subst (EndedOrAliveFrom (e ∷ past) (length past) (successor supply o u key)) (sym q) (of_old (ih at_p.0 u at_p.1)) in
    subst (EndedOrAlive (e ∷ past) (length past)) (sym is) ended_or_alive
  where
    successor_is : HasNote (outcome_of supply (RotateToken o u key)).notes (Issued t) → t ≡ successor supply o u key
    successor_is (inl x) = cc x
    successor_is (inr (inl x)) = cc x
    successor_is (inr (inr x)) = absurd x

    of_old : EndedOrAlive past (noted_issued past u (managed_issued (trail_of past) supply.now a.1.0 u a.1.2).0).0 u
        → EndedOrAliveFrom (e ∷ past) (length past) (successor supply o u key) (origin_of past u.manage)
    of_old (inl (ended, over)) = absurd (live_not_over (trail_of past) supply.now u a.2 over)
    of_old (inr (not_over, q_low, alive)) =
        let low : u.serial < first_serial (trail_of past) =
        (sound_note (next_grant (trail_of past)) (first_serial (trail_of past)) (trail_of past) (Issued u) sound alive.issued).0 in
        let other : (length past == origin_of past u.manage)
        ≡ false = false_from_ne_true (length past == origin_of past u.manage)
        (λ k. let j : length past ≡ origin_of past u.manage = (Decides-eqb (length past) (origin_of past u.manage)).0 k in omega arith) in
        let chain : chain_doors (origin_of past u.manage) past ≡ chain_doors (origin_of past u.manage) (e ∷ past)
        = sym (ap (λ b. if b || is_among (chain_doors (origin_of past u.manage) past) (presented_door e.call) then option_to_list (handed_door e.reply)
        ++ chain_doors (origin_of past u.manage) past else chain_doors (origin_of past u.manage) past) other
        ∙ ap (λ d. if is_among (chain_doors (origin_of past u.manage) past) d then option_to_list (handed_door e.reply)
        ++ chain_doors (origin_of past u.manage) past else chain_doors (origin_of past u.manage) past) a.0) in
        let made = successor_alive supply o u key (trail_of past) (chain_doors (origin_of past u.manage) past) alive
        (opening_noted (trail_of past) u.grant o a.3).1 (omega arith) (λ s l. kept_in (trail_of past) s sound (omega arith)) in
        let placed : IsAlive (trail_of (e ∷ past)) (chain_doors (origin_of past u.manage) past) (successor supply o u key)
        = subst (λ (ns : List Note). IsAlive (reverse ns ++ trail_of past) (chain_doors (origin_of past u.manage) past) (successor supply o u key)) (sym notes)
        made in
        inr (
          ap (λ b. (b && ends (drawn_value supply 1) (origin_of past u.manage) past e)
              || is_ended (drawn_value supply 1) (origin_of past u.manage) (length past) past) (le-ltb (length past) (length past) (omega arith))
              ∙ ended_none (drawn_value supply 1) (origin_of past u.manage) (length past) past (omega arith),
          omega arith,
          subst (λ (c : List Text). IsAlive (trail_of (e ∷ past)) c (successor supply o u key)) chain placed,
        )
action_ended_or_alive e past supply (RevokeToken u false) t sound first reply notes a ih fresh h = absurd
    (not_tokens (outcome_of supply (RevokeToken u false)).notes (tt, tt) t h)
action_ended_or_alive e past supply _ t sound first reply notes a ih fresh h = absurd h

pub all_ended_or_alive : (rules : Setup) (past : List Event) → IsLegalPast rules past → IsShort past → (p : ℕ) (t : TokenNote) → IssuedAt past p t
    → EndedOrAlive past p t
all_ended_or_alive rules [] legal short p t h = absurd h
all_ended_or_alive rules (e ∷ past) legal short p t (inl h) =
    let supply = supply_at past e.moment e.draw in
    let why = chosen rules past e legal.0 in
    let action = why.action in
    let ended_or_alive = action_ended_or_alive e past supply action t (past_sound rules past legal.1) refl why.reply why.notes why.cause
    (all_ended_or_alive rules past legal.1 (short_before e past short)) (λ u k. not_handed rules e past u legal short k)
    (subst (λ (ns : List Note). HasNote ns (Issued t)) why.notes h.1) in
    subst (λ (n : ℕ). EndedOrAlive (e ∷ past) n t) (sym h.0) ended_or_alive
all_ended_or_alive rules (e ∷ past) legal short p t (inr h) =
    let noted = issued_noted past p t h in
    subst (EndedOrAliveFrom (e ∷ past) p t) (sym (origin_old rules e past t legal short noted))
    (old_ended_or_alive rules e past p (origin_of past t.manage) t legal short (place_low past p t h)
    (all_ended_or_alive rules past legal.1 (short_before e past short) p t h))
