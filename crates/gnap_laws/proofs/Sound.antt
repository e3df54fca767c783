-- What holds of all notes of a legal history: grants and serials are below the next ones.
use Rattle.std.proofs.Common.{ℕ, ◌≡◌, ◌<◌, ◌≤◌, ◌+◌, ◌*◌, ◌^◌, Bool, true, false, cond, List, [], ◌∷◌, ◌++◌, length, map, reverse, refl, sym, ◌∙◌, ap, subst, inl, inr, arith, length-append, Option, None}
use Rattle.std.specs.Prelude.{◌&&◌, ◌==◌, if◌then◌else◌, slice_index}
use Rattle.std.specs.List.{flat_map, filter_map, cons_option, count_by}
use Rattle.std.proofs.lemmas.List.{reverse-append, length-reverse}
use Rattle.std.proofs.lemmas.List.Sums.{sum_by-append}
use Rattle.gnap_model.specs.Common.{Text, Has, AreDistinct, some_if}
use Rattle.gnap_model.specs.Values.{value_text}
use Rattle.gnap_laws.specs.Types.{Setup, Ask, Modes, Call, OpeningNote, TokenNote, Note}
use Rattle.gnap_model.specs.Notes.{Event, note_values, trail_values, trail_of, first_serial}
use Rattle.gnap_model.specs.declared.notes.Note.TheVariants.{Opened, Terms, Approved, Issued, Pended, Finalized, Retired}
use Rattle.gnap_model.specs.Standing.{next_grant, is_opening, token_in, is_managed}
use Rattle.gnap_model.specs.Actions.{Action, Supply, outcome_of, drawn_value, grant_outcome, pending_outcome, tokens_for, door_note, terms_for, instance_of, retire, round_for}
use Rattle.gnap_model.specs.Actions.Action.{OpenAtOnce, OpenAsking, TakeDecision, RenewDoor, CollectDecision, WrongReference, LastWrongReference, RefuseAndFinalize, ModifyAtOnce, ModifyAsking, CancelGrant, RotateToken, RevokeToken}
use Rattle.gnap_model.specs.Change.{tokens_of}
use Rattle.gnap_model.specs.Answer.{supply_at}
use Rattle.gnap_model.specs.Legal.{IsLegalPast}
use Rattle.gnap_laws.proofs.Causes.{chosen, Names, Cause}
use Rattle.gnap_laws.proofs.Serials.{IsSerialled, grant_values, tokens_length, trail-onto, retired_none, serial_in}
use Rattle.gnap_model.proofs.ValueTexts.{value_text_injective}
use Rattle.gnap_model.proofs.TrailNotes.{HasNote, note-reverse, EachNote, each-append, each-reverse, each_more, each_of, opening_noted, grant_named, managed_issued}
use Rattle.gnap_laws.proofs.AliveTokens.{IsOneSerial}
use Rattle.gnap_laws.proofs.Doors.{note_has, note_one}

-- grants below g, serials below s
abbrev pub SoundAt : ℕ → ℕ → Note → Type 0
SoundAt g s (Opened o) = o.grant < g
SoundAt g s (Finalized h) = h < g
SoundAt g s (Retired r why) = r < s
SoundAt g s (Issued t) = (t.serial < s) × (t.grant < g) × ((a : ℕ) × (b : ℕ) × (t.value ≡ value_text t.serial a b))
SoundAt g s _ = Unit {0}

abbrev pub AreSound : ℕ → ℕ → List Note → Type 0
AreSound g s notes = EachNote (SoundAt g s) notes

sound_at_more : (g s g' s' : ℕ) (n : Note) → g ≤ g' → s ≤ s' → SoundAt g s n → SoundAt g' s' n
sound_at_more g s g' s' (Opened o) p q h = omega arith
sound_at_more g s g' s' (Finalized k) p q h = omega arith
sound_at_more g s g' s' (Retired r why) p q h = omega arith
sound_at_more g s g' s' (Issued t) p q h = (let k = h.0 in omega arith, (let k = h.1 in omega arith), h.2)
sound_at_more g s g' s' _ p q h = tt

pub sound_note : (g s : ℕ) (ns : List Note) (n : Note) → AreSound g s ns → HasNote ns n → SoundAt g s n
sound_note g s notes note sound has = each_of (SoundAt g s) notes note sound has

abbrev pub IsSound : List Note → Type 0
IsSound trail = AreSound (next_grant trail) (first_serial trail) trail

pub names_known : (trail : List Note) (now : ℕ) (call : Call) (o : OpeningNote) → IsSound trail → Names trail now call o → o.grant < next_grant trail
names_known trail now call o sound names = sound_note (next_grant trail) (first_serial trail) trail (Opened o) sound
    (grant_named trail now names.0 o names.2).opened

tokens_sound : (supply : Supply) (o : OpeningNote) (asks : List Ask) (k g s : ℕ) → o.grant < g → supply.first + k + 2 * length asks ≤ s
    → AreSound g s (map Issued (tokens_for supply o asks k))
tokens_sound supply o [] k g s p h = tt
tokens_sound supply o (ask ∷ asks) k g s p h =
    ((omega arith, p, (slice_index supply.words (2 * k), slice_index supply.words (2 * k + 1), refl)), tokens_sound supply o asks (k + 2) g s p (omega arith))

grant_sound : (supply : Supply) (o : OpeningNote) (before : List Note) (asks : List Ask) (single : Bool) (subject instance : Option Text) (g s : ℕ)
    → flat_map note_values before ≡ [] → o.grant < g
    → supply.first + length (flat_map note_values (grant_outcome supply o before asks single subject instance).notes) ≤ s → AreSound g s before
    → AreSound g s (grant_outcome supply o before asks single subject instance).notes
grant_sound supply o before asks single subject instance g s none p h b =
    let e = ap (length {A = Text}) (grant_values supply o before asks single subject instance none) in
    let l = length-append (flat_map note_values (map Issued (tokens_for supply o asks 0))) (drawn_value supply (2 * length asks) ∷ []) in
    let k = tokens_length supply o asks 0 in
    each-append (SoundAt g s) (before ++ map Issued (tokens_for supply o asks 0)) (door_note supply o (2 * length asks) ∷ [])
    (each-append (SoundAt g s) before (map Issued (tokens_for supply o asks 0)) b (tokens_sound supply o asks 0 g s p (omega arith))) (tt, tt)

pend_sound : (supply : Supply) (o : OpeningNote) (before : List Note) (modes : Modes) (instance : Option Text) (g s : ℕ) → AreSound g s before
    → AreSound g s (pending_outcome supply o before modes instance).notes
pend_sound supply o before modes instance g s b = each-append (SoundAt g s) before (door_note supply o 0 ∷ Pended (round_for supply o modes) ∷ []) b
    (tt, (tt, tt))

opened_sum : (ns : List Note) (o : OpeningNote) → HasNote ns (Opened o) → 1 ≤ count_by is_opening ns
opened_sum [] o h = absurd h
opened_sum (n ∷ ns) o (inl e) =
    let k = sum_by-append (λ (m : Note). cond (is_opening m) 1 0) (n ∷ []) ns in
    let one : count_by is_opening (n ∷ []) ≡ 1 = subst (λ (m : Note). count_by is_opening (m ∷ []) ≡ 1) e refl in omega arith
opened_sum (n ∷ ns) o (inr h) =
    let k = sum_by-append (λ (m : Note). cond (is_opening m) 1 0) (n ∷ []) ns in
    let r = opened_sum ns o h in omega arith

-- the tokens that a modification retires
abbrev pub SerialsBelow : ℕ → List TokenNote → Type 0
SerialsBelow s [] = Unit {0}
SerialsBelow s (t ∷ ts) = (t.serial < s) × SerialsBelow s ts

below-append : (s : ℕ) (xs ys : List TokenNote) → SerialsBelow s xs → SerialsBelow s ys → SerialsBelow s (xs ++ ys)
below-append s [] ys hx hy = hy
below-append s (x ∷ xs) ys hx hy = (hx.0, below-append s xs ys hx.1 hy)

below-reverse : (s : ℕ) (xs : List TokenNote) → SerialsBelow s xs → SerialsBelow s (reverse xs)
below-reverse s [] h = tt
below-reverse s (x ∷ xs) h = subst (SerialsBelow s) (sym (reverse-append (x ∷ []) xs)) (below-append s (reverse xs) (x ∷ []) (below-reverse s xs h.1) (h.0, tt))

below_cons : (g s : ℕ) (test : TokenNote → Bool) (n : Note) (ts : List TokenNote) → SoundAt g s n → SerialsBelow s ts
    → SerialsBelow s (cons_option (token_in test n) ts)
below_cons g s test (Issued t) ts h k = at (test t)
  where
    at : (b : Bool) → SerialsBelow s (cons_option (some_if b t) ts)
    at true = (h.0, k)
    at false = k
below_cons g s test _ ts h k = k

tokens_below : (g s : ℕ) (test : TokenNote → Bool) (ns : List Note) → AreSound g s ns → SerialsBelow s (filter_map (token_in test) ns)
tokens_below g s test [] h = tt
tokens_below g s test (n ∷ ns) h = below_cons g s test n (filter_map (token_in test) ns) h.0 (tokens_below g s test ns h.1)

retire_sound : (g s : ℕ) (ts : List TokenNote) (rest : List Note) → SerialsBelow s ts → AreSound g s rest → AreSound g s (retire ts ++ rest)
retire_sound g s [] rest h k = k
retire_sound g s (t ∷ ts) rest h k = (h.0, retire_sound g s ts rest h.1 k)

below_more : (s s' : ℕ) (ts : List TokenNote) → s ≤ s' → SerialsBelow s ts → SerialsBelow s' ts
below_more s s' [] p h = tt
below_more s s' (t ∷ ts) p h = (let k = h.0 in omega arith, below_more s s' ts p h.1)

pub modified_below : (trail : List Note) (now : ℕ) (o : OpeningNote) (ts : List TokenNote) (s : ℕ) → IsSound trail → ts ≡ tokens_of trail now o
    → first_serial trail ≤ s → SerialsBelow s ts
modified_below trail now o ts s sound e p =
    below_more (first_serial trail) s ts p (subst (SerialsBelow (first_serial trail)) (sym e)
    (below-reverse (first_serial trail) (filter_map (token_in (λ t. (t.grant == o.grant) && is_managed trail now t)) trail)
    (tokens_below (next_grant trail) (first_serial trail) (λ t. (t.grant == o.grant) && is_managed trail now t) trail sound)))

opened_counted : (ns : List Note) (o : OpeningNote) → HasNote ns (Opened o) → 1 ≤ count_by is_opening ns
opened_counted ns o h = opened_sum ns o h

pub old_known : (notes trail : List Note) (o : OpeningNote) → o.grant < next_grant trail → (g : ℕ) → next_grant (reverse notes ++ trail) ≤ g → o.grant < g
old_known notes trail o low g p = let k = sum_by-append (λ (n : Note). cond (is_opening n) 1 0) (reverse notes) trail in omega arith

pub new_known : (notes trail : List Note) (o : OpeningNote) → o.grant ≡ next_grant trail → HasNote notes (Opened o) → (g : ℕ)
    → next_grant (reverse notes ++ trail) ≤ g → o.grant < g
new_known notes trail o e h g p =
    let k = sum_by-append (λ (n : Note). cond (is_opening n) 1 0) (reverse notes) trail in
    let c = opened_counted (reverse notes) o (note-reverse notes (Opened o) h) in omega arith

-- the next grant and serial after an action
pub action_sound : (supply : Supply) (trail : List Note) (call : Call) (action : Action) (g s : ℕ) → IsSound trail → supply.first ≡ first_serial trail
    → Cause trail supply.now call action
    → next_grant (reverse (outcome_of supply action).notes ++ trail) ≤ g → supply.first + length (flat_map note_values (outcome_of supply action).notes) ≤ s
    → AreSound g s (outcome_of supply action).notes
action_sound supply trail call (TakeDecision r rights request) g s sound first a p q = (tt, tt)
action_sound supply trail call (OpenAtOnce o request) g s sound first a p q =
    let k : o.grant < g = new_known (outcome_of supply (OpenAtOnce o request)).notes trail o a.2 (inl refl) g p in
    grant_sound supply o (Opened o ∷ Terms (terms_for o request) ∷ Approved o.grant [] ∷ []) request.asks request.single None (instance_of o) g s refl k q
    (k, (tt, (tt, tt)))
action_sound supply trail call (OpenAsking o request modes) g s sound first a p q =
    let k : o.grant < g = new_known (outcome_of supply (OpenAsking o request modes)).notes trail o a.2 (inl refl) g p in
    pend_sound supply o (Opened o ∷ Terms (terms_for o request) ∷ []) modes (instance_of o) g s (k, (tt, tt))
action_sound supply trail call (RenewDoor o) g s sound first a p q = (tt, tt)
action_sound supply trail call (CollectDecision o w d asks) g s sound first a p q =
    let k : o.grant < g = old_known (outcome_of supply (CollectDecision o w d asks)).notes trail o (names_known trail supply.now call o sound a.0) g p in
    grant_sound supply o (Approved o.grant d.rights ∷ []) asks w.single (if w.subject then d.subject else None) None g s refl k q (tt, tt)
action_sound supply trail call (WrongReference o) g s sound first a p q = (tt, tt)
action_sound supply trail call (LastWrongReference o) g s sound first a p q =
    (tt, (old_known (outcome_of supply (LastWrongReference o)).notes trail o (names_known trail supply.now call o sound a.0) g p, tt))
action_sound supply trail call (RefuseAndFinalize o code) g s sound first a p q =
    (old_known (outcome_of supply (RefuseAndFinalize o code)).notes trail o (names_known trail supply.now call o sound a.0) g p, tt)
action_sound supply trail call (ModifyAtOnce o consent retired request) g s sound first a p q =
    let k : o.grant < g = old_known (outcome_of supply (ModifyAtOnce o consent retired request)).notes trail o (names_known trail supply.now call o sound a.0) g
    p in
    grant_sound supply o (retire retired ++ Terms (terms_for o request) ∷ Approved o.grant consent ∷ []) request.asks request.single None None g s
    (retired_none retired (Terms (terms_for o request) ∷ Approved o.grant consent ∷ [])) k q
    (retire_sound g s retired (Terms (terms_for o request) ∷ Approved o.grant consent ∷ [])
    (modified_below trail supply.now o retired s sound a.2 (omega arith)) (tt, (tt, tt)))
action_sound supply trail call (ModifyAsking o retired request modes) g s sound first a p q =
    pend_sound supply o (retire retired ++ Terms (terms_for o request) ∷ []) modes None g s
    (retire_sound g s retired (Terms (terms_for o request) ∷ []) (modified_below trail supply.now o retired s sound a.2 (omega arith)) (tt, tt))
action_sound supply trail call (CancelGrant o) g s sound first a p q =
    (old_known (outcome_of supply (CancelGrant o)).notes trail o (names_known trail supply.now call o sound a.0) g p, tt)
action_sound supply trail call (RotateToken o u key) g s sound first a p q =
    let u_sound = sound_note (next_grant trail) (first_serial trail) trail (Issued u) sound (managed_issued trail supply.now a.1.0 u a.1.2).0 in
    let u_low : u.serial < first_serial trail = u_sound.0 in
    let g_low : o.grant < next_grant trail = (let e = (opening_noted trail u.grant o a.3).1 in let h = u_sound.1 in omega arith) in (
      omega arith,
      (
        (
          omega arith,
          old_known (outcome_of supply (RotateToken o u key)).notes trail o g_low g p,
          (slice_index supply.words 0, slice_index supply.words 1, refl),
        ),
        tt,
      ),
    )
action_sound supply trail call (RevokeToken u false) g s sound first a p q =
    let u_sound = sound_note (next_grant trail) (first_serial trail) trail (Issued u) sound (managed_issued trail supply.now a.1.0 u a.1.2).0 in
    let u_low : u.serial < first_serial trail = u_sound.0 in (omega arith, tt)
action_sound supply trail call _ g s sound first a p q = tt

pub past_sound : (rules : Setup) (past : List Event) → IsLegalPast rules past → IsSound (trail_of past)
past_sound rules [] legal = tt
past_sound rules (e ∷ past) legal =
    let supply = supply_at past e.moment e.draw in
    let why = chosen rules past e legal.0 in
    let action = why.action in
    let before = past_sound rules past legal.1 in
    let g = next_grant (reverse e.notes ++ trail_of past) in
    let s = first_serial (reverse e.notes ++ trail_of past) in
    let values = ap (length {A = Text}) (trail-onto e.notes (trail_of past)) in
    let parts = length-append (reverse (flat_map note_values e.notes)) (trail_values (trail_of past)) in
    let flipped = length-reverse (flat_map note_values e.notes) in
    let drawn : length (flat_map note_values (outcome_of supply action).notes)
    ≡ length (flat_map note_values e.notes) = ap (λ (ns : List Note). length (flat_map note_values ns)) (sym why.notes) in
    let grants : next_grant (reverse (outcome_of supply action).notes ++ trail_of past)
    ≤ g = subst (λ (ns : List Note). next_grant (reverse ns ++ trail_of past) ≤ g) why.notes (omega arith) in
    let more : next_grant (trail_of past)
    ≤ g = (let k = sum_by-append (λ (n : Note). cond (is_opening n) 1 0) (reverse e.notes) (trail_of past) in omega arith) in
    each-append (SoundAt g s) (reverse e.notes) (trail_of past)
    (each-reverse (SoundAt g s) e.notes
    (subst (AreSound g s) (sym why.notes) (action_sound supply (trail_of past) e.call action g s before refl why.cause grants (omega arith))))
    (each_more (SoundAt (next_grant (trail_of past)) (first_serial (trail_of past))) (SoundAt g s) (trail_of past)
    (λ n. sound_at_more (next_grant (trail_of past)) (first_serial (trail_of past)) g s n more (omega arith)) before)

-- ---- a serial is that of one token

same_value : (vs : List Text) (v w : Text) (s a b c d : ℕ) → length vs < 2 ^ 64 → s < 2 ^ 64 → IsSerialled vs → Has vs v → Has vs w → v ≡ value_text s a b
    → w ≡ value_text s c d → v ≡ w
same_value [] v w s a b c d few low h hv hw ev ew = absurd hv
same_value (x ∷ xs) v w s a b c d few low h (inl e) (inl f) ev ew = e ∙ sym f
same_value (x ∷ xs) v w s a b c d few low h (inr p) (inr q) ev ew = same_value xs v w s a b c d (omega arith) low h.1 p q ev ew
same_value (x ∷ xs) v w s a b c d few low h (inl e) (inr q) ev ew =
    let r = serial_in xs w h.1 q in
    let rl : r.0 ≤ length xs = r.3 in
    let top : s ≡ length xs + 1 = value_text_injective s (length xs + 1) a b h.0.0 h.0.1 low (omega arith) (sym ev ∙ e ∙ h.0.2) in
    let below : s ≡ r.0 = value_text_injective s r.0 c d r.1 r.2 low (omega arith) (sym ew ∙ r.4) in absurd (omega arith)
same_value (x ∷ xs) v w s a b c d few low h (inr p) (inl f) ev ew =
    let r = serial_in xs v h.1 p in
    let rl : r.0 ≤ length xs = r.3 in
    let top : s ≡ length xs + 1 = value_text_injective s (length xs + 1) c d h.0.0 h.0.1 low (omega arith) (sym ew ∙ f ∙ h.0.2) in
    let below : s ≡ r.0 = value_text_injective s r.0 a b r.1 r.2 low (omega arith) (sym ev ∙ r.4) in absurd (omega arith)

pub one_serial : (trail : List Note) → IsSerialled (trail_values trail) → length (trail_values trail) < 2 ^ 64 → AreDistinct (trail_values trail)
    → IsSound trail → IsOneSerial trail
one_serial trail serialled few distinct sound t u ht hu e =
    let st = sound_note (next_grant trail) (first_serial trail) trail (Issued t) sound ht in
    let su = sound_note (next_grant trail) (first_serial trail) trail (Issued u) sound hu in
    let low : t.serial < first_serial trail = st.0 in
    let vt : Has (trail_values trail) t.value = note_has trail (Issued t) t.value ht (inr (inl refl)) in
    let vu : Has (trail_values trail) u.value = note_has trail (Issued u) u.value hu (inr (inl refl)) in
    let same : t.value ≡ u.value = same_value (trail_values trail) t.value u.value t.serial st.2.0 st.2.1 su.2.0 su.2.1 few (omega arith) serialled vt vu st.2.2
    (su.2.2 ∙ ap (λ n. value_text n su.2.0 su.2.1) (sym e)) in
    let note : Issued t ≡ Issued u = note_one trail (Issued t) (Issued u) t.value distinct ht hu (inr (inl refl)) (inr (inl same)) in cc note
