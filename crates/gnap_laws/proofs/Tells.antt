-- Introspections tell what came, from what becomes of tokens.
use Rattle.std.proofs.Common.{ℕ, ◌≡◌, ◌<◌, ◌≤◌, ◌+◌, ◌-◌, ◌*◌, ◌⊎◌, min, Bool, true, false, List, [], ◌∷◌, ◌++◌, length, map, reverse, refl, sym, ◌∙◌, ap, subst, inl, inr, arith, Option, Some, None}
use Rattle.std.specs.Option.{option_or}
use Rattle.std.specs.Prelude.{◌&&◌, ◌||◌, not, nat_lt, nat_le, if◌then◌else◌}
use Rattle.std.specs.Bool.{Decides}
use Rattle.std.specs.List.{list_any}
use Rattle.std.proofs.lemmas.List.{reverse-reverse}
use Rattle.std.proofs.lemmas.Bool.Decides.{Decides-ltb}
use Rattle.std.proofs.Math.Bool.{or-false}
use Rattle.std.proofs.lemmas.Bool.{leb-true, and_from, and_parts, both_ways, false_from_ne_true, lt-ltb, not-true, or_cases, or_left, or_right}
use Rattle.std.proofs.lemmas.Slice.Eq.{bytes_eq-Decides}
use Rattle.gnap_model.specs.Common.{Text, same_text, first_of, some_if}
use Rattle.gnap_laws.specs.Types.{Right, Setup, Ask, Binding, Call, Reply, TokenOut, OpeningNote, TokenNote, Note}
use Rattle.gnap_model.specs.Keys.{key_of, server_names}
use Rattle.gnap_model.specs.Judging.{suits, serves_all}
use Rattle.gnap_model.specs.declared.calls.Call.TheVariants.{Introspect}
use Rattle.gnap_model.specs.declared.objects.ErrorCode.TheVariants.{InvalidAccess}
use Rattle.gnap_model.specs.Notes.{Event, trail_of, first_serial, now_at}
use Rattle.gnap_model.specs.declared.notes.Note.TheVariants.{Opened, Terms, Approved, Issued, Pended}
use Rattle.gnap_model.specs.Standing.{is_retirement, next_grant, is_live, is_approved, grant_state, state_after, has_ended, opening_in, state_change_in, live_token, token_in}
use Rattle.gnap_model.specs.Standing.GrantState.{IsFinalized}
use Rattle.gnap_model.specs.Actions.{Action, Supply, outcome_of, grant_outcome, tokens_for, token_for, token_out, door_note, terms_for, instance_of, retire, round_for, successor}
use Rattle.gnap_model.specs.Actions.Action.{Refuse, ShowToken, ShowInactive, LapseAction, OpenAtOnce, OpenAsking, ShowRound, ShowHandle, TakeDecision, RenewDoor, CollectDecision, WrongReference, LastWrongReference, RefuseAndFinalize, ModifyAtOnce, ModifyAsking, CancelGrant, RotateToken, RevokeToken}
use Rattle.gnap_model.specs.Begin.{show_token}
use Rattle.gnap_model.specs.Answer.{supply_at, action_of}
use Rattle.gnap_model.specs.Legal.{IsNext, IsLegalPast}
use Rattle.gnap_laws.specs.Provenance.{handed_tokens, origin_of, is_ended, has_come, comes_from, came, tells, tells_all}
use Rattle.gnap_laws.proofs.Causes.{chosen, Cause}
use Rattle.gnap_laws.proofs.Once.{IsShort, short_before, distinct}
use Rattle.gnap_model.proofs.TrailNotes.{HasNote, note-append_right, note-append_left, note-reverse, first_noted, opening_noted, grant_named, token_found}
use Rattle.gnap_laws.proofs.AliveTokens.{IsAlive}
use Rattle.gnap_laws.proofs.Doors.{note_one}
use Rattle.gnap_laws.proofs.Sound.{past_sound, IsSound, sound_note}
use Rattle.gnap_laws.proofs.Came.{IssuedAt, EndedOrAlive, all_ended_or_alive, noted_issued, issued_noted, live_not_over, note_cases, not_tokens, retire_not_tokens, grant_token, HasNoToken}

-- ---- what an action hands out is what its notes issue

abbrev pub Hands : Supply → Action → Type 0
Hands supply action = (f : TokenOut → Bool)
    → Decides (list_any f (handed_tokens (outcome_of supply action).reply))
    ((t : TokenNote) × HasNote (outcome_of supply action).notes (Issued t) × (f (token_out supply.now t) ≡ true))

some_shown : (now : ℕ) (f : TokenOut → Bool) (ts : List TokenNote) → list_any f (map (token_out now) ts) ≡ true
    → (t : TokenNote) × HasNote (map Issued ts) (Issued t) × (f (token_out now t) ≡ true)
some_shown now f [] e = cc e
some_shown now f (t ∷ ts) e = elim (or_cases (f (token_out now t)) (list_any f (map (token_out now) ts)) e) [
  | inl a ↦ (t, inl refl, a)
  | inr b ↦ let r = some_shown now f ts b in (r.0, inr r.1, r.2)
]

shown_some : (now : ℕ) (f : TokenOut → Bool) (ts : List TokenNote) (t : TokenNote) → HasNote (map Issued ts) (Issued t) → f (token_out now t) ≡ true
    → list_any f (map (token_out now) ts) ≡ true
shown_some now f [] t h e = absurd h
shown_some now f (u ∷ ts) t (inl k) e =
    or_left (f (token_out now u)) (list_any f (map (token_out now) ts)) (let is : t ≡ u = cc k in subst (λ (x : TokenNote). f (token_out now x) ≡ true) is e)
shown_some now f (u ∷ ts) t (inr k) e = or_right (f (token_out now u)) (list_any f (map (token_out now) ts)) (shown_some now f ts t k e)

grant_hands : (supply : Supply) (o : OpeningNote) (before : List Note) (asks : List Ask) (single : Bool) (subject instance : Option Text) (f : TokenOut → Bool)
    → HasNoToken before
    → Decides (list_any f (handed_tokens (grant_outcome supply o before asks single subject instance).reply))
    ((t : TokenNote) × HasNote (grant_outcome supply o before asks single subject instance).notes (Issued t) × (f (token_out supply.now t) ≡ true))
grant_hands supply o before asks single subject instance f none = (
  (λ e. let r = some_shown supply.now f (tokens_for supply o asks 0) e in (
    r.0,
    note-append_left (before ++ map Issued (tokens_for supply o asks 0)) (door_note supply o (2 * length asks) ∷ []) (Issued r.0)
        (note-append_right before (map Issued (tokens_for supply o asks 0)) (Issued r.0) r.1),
    r.2,
  )),
  (λ h. shown_some supply.now f (tokens_for supply o asks 0) h.0 (grant_token supply o before asks single subject instance h.0 none h.1) h.2),
)

none_handed : (f : TokenOut → Bool) (ns : List Note) (now : ℕ) → HasNoToken ns
    → Decides (list_any f []) ((t : TokenNote) × HasNote ns (Issued t) × (f (token_out now t) ≡ true))
none_handed f ns now none = ((λ e. cc e), (λ h. absurd (none h.0 h.1)))

nothing : HasNoToken []
nothing = λ t h. h

pub hands : (supply : Supply) (action : Action) → Hands supply action
hands supply (TakeDecision r rights request) f = none_handed f (outcome_of supply (TakeDecision r rights request)).notes supply.now
    (not_tokens (outcome_of supply (TakeDecision r rights request)).notes (tt, tt))
hands supply (OpenAtOnce o request) f = grant_hands supply o (Opened o ∷ Terms (terms_for o request) ∷ Approved o.grant [] ∷ []) request.asks request.single
    None (instance_of o) f (not_tokens (Opened o ∷ Terms (terms_for o request) ∷ Approved o.grant [] ∷ []) (tt, (tt, (tt, tt))))
hands supply (OpenAsking o request modes) f = none_handed f (outcome_of supply (OpenAsking o request modes)).notes supply.now
    (not_tokens (outcome_of supply (OpenAsking o request modes)).notes (tt, (tt, (tt, (tt, tt)))))
hands supply (RenewDoor o) f = none_handed f (outcome_of supply (RenewDoor o)).notes supply.now (not_tokens (outcome_of supply (RenewDoor o)).notes (tt, tt))
hands supply (CollectDecision o w d asks) f = grant_hands supply o (Approved o.grant d.rights ∷ []) asks w.single (if w.subject then d.subject else None) None f
    (not_tokens (Approved o.grant d.rights ∷ []) (tt, tt))
hands supply (WrongReference o) f = none_handed f (outcome_of supply (WrongReference o)).notes supply.now
    (not_tokens (outcome_of supply (WrongReference o)).notes (tt, tt))
hands supply (LastWrongReference o) f = none_handed f (outcome_of supply (LastWrongReference o)).notes supply.now
    (not_tokens (outcome_of supply (LastWrongReference o)).notes (tt, (tt, tt)))
hands supply (RefuseAndFinalize o code) f = none_handed f (outcome_of supply (RefuseAndFinalize o code)).notes supply.now
    (not_tokens (outcome_of supply (RefuseAndFinalize o code)).notes (tt, tt))
hands supply (ModifyAtOnce o consent retired request) f =
    grant_hands supply o (retire retired ++ Terms (terms_for o request) ∷ Approved o.grant consent ∷ []) request.asks request.single None None f
    (not_tokens (retire retired ++ Terms (terms_for o request) ∷ Approved o.grant consent ∷ [])
    (retire_not_tokens retired (Terms (terms_for o request) ∷ Approved o.grant consent ∷ []) (tt, (tt, tt))))
hands supply (ModifyAsking o retired request modes) f =
    none_handed f (outcome_of supply (ModifyAsking o retired request modes)).notes supply.now
    (λ t h. elim (note_cases (retire retired ++ Terms (terms_for o request) ∷ []) (door_note supply o 0 ∷ Pended (round_for supply o modes) ∷ []) (Issued t) h) [
      | inl x ↦ not_tokens (retire retired ++ Terms (terms_for o request) ∷ []) (retire_not_tokens retired (Terms (terms_for o request) ∷ []) (tt, tt)) t x
      | inr y ↦ not_tokens (door_note supply o 0 ∷ Pended (round_for supply o modes) ∷ []) (tt, (tt, tt)) t y
    ])
hands supply (CancelGrant o) f = none_handed f (outcome_of supply (CancelGrant o)).notes supply.now
    (not_tokens (outcome_of supply (CancelGrant o)).notes (tt, tt))
hands supply (RotateToken o u key) f = (
  (λ e. (successor supply o u key, inr (inl refl), sym (or-false (f (token_out supply.now (successor supply o u key)))) ∙ e)),
  (λ h. or_left (f (token_out supply.now (successor supply o u key))) false (subst (λ (x : TokenNote). f (token_out supply.now x) ≡ true) (is h.0 h.1) h.2)),
)
  where
    is : (t : TokenNote) → HasNote (outcome_of supply (RotateToken o u key)).notes (Issued t) → t ≡ successor supply o u key
    is t (inl x) = cc x
    is t (inr (inl x)) = cc x
    is t (inr (inr x)) = absurd x
hands supply (RevokeToken u false) f = none_handed f (outcome_of supply (RevokeToken u false)).notes supply.now
    (not_tokens (outcome_of supply (RevokeToken u false)).notes (tt, tt))
hands supply _ f = none_handed f [] supply.now nothing

-- ---- the end of a grant bounds its tokens

-- one opening for each grant
abbrev pub IsOneOpening : List Note → Type 0
IsOneOpening trail = (o p : OpeningNote) → HasNote trail (Opened o) → HasNote trail (Opened p) → o.grant ≡ p.grant → o ≡ p

abbrev pub EndsBound : List Note → Type 0
EndsBound trail = (t : TokenNote) (o : OpeningNote) → HasNote trail (Issued t) → HasNote trail (Opened o) → o.grant ≡ t.grant → t.until ≤ o.end

abbrev pub IsNotOpening : Note → Type 0
IsNotOpening (Opened o) = ⊥
IsNotOpening _ = Unit {0}

abbrev pub AreNotOpenings : List Note → Type 0
AreNotOpenings [] = Unit {0}
AreNotOpenings (n ∷ ns) = IsNotOpening n × AreNotOpenings ns

not_openings : (ns : List Note) (o : OpeningNote) → AreNotOpenings ns → HasNote ns (Opened o) → ⊥
not_openings [] o h k = k
not_openings (n ∷ ns) o h (inl e) = subst IsNotOpening (sym e) h.0
not_openings (n ∷ ns) o h (inr k) = not_openings ns o h.1 k

openings-append : (xs ys : List Note) → AreNotOpenings xs → AreNotOpenings ys → AreNotOpenings (xs ++ ys)
openings-append [] ys hx hy = hy
openings-append (x ∷ xs) ys hx hy = (hx.0, openings-append xs ys hx.1 hy)

issued_no_opening : (ts : List TokenNote) → AreNotOpenings (map Issued ts)
issued_no_opening [] = tt
issued_no_opening (t ∷ ts) = (tt, issued_no_opening ts)

retire_no_opening : (ts : List TokenNote) (rest : List Note) → AreNotOpenings rest → AreNotOpenings (retire ts ++ rest)
retire_no_opening [] rest h = h
retire_no_opening (t ∷ ts) rest h = (tt, retire_no_opening ts rest h)

grant_no_opening : (supply : Supply) (o : OpeningNote) (before : List Note) (asks : List Ask) (single : Bool) (subject instance : Option Text)
    → AreNotOpenings before → AreNotOpenings (grant_outcome supply o before asks single subject instance).notes
grant_no_opening supply o before asks single subject instance h =
    openings-append (before ++ map Issued (tokens_for supply o asks 0)) (door_note supply o (2 * length asks) ∷ [])
    (openings-append before (map Issued (tokens_for supply o asks 0)) h (issued_no_opening (tokens_for supply o asks 0))) (tt, tt)

abbrev pub opening_by : Action → Option OpeningNote
opening_by (OpenAtOnce o request) = Some o
opening_by (OpenAsking o request modes) = Some o
opening_by _ = None

-- what an action opens has the next number, and there is one of it
opens : (supply : Supply) (trail : List Note) (call : Call) (action : Action) (o : OpeningNote) → Cause trail supply.now call action
    → HasNote (outcome_of supply action).notes (Opened o) → (opening_by action ≡ Some o) × (o.grant ≡ next_grant trail)
opens supply trail call (Refuse code) o a h = absurd h
opens supply trail call (ShowToken access u) o a h = absurd h
opens supply trail call ShowInactive o a h = absurd h
opens supply trail call LapseAction o a h = absurd h
opens supply trail call (ShowRound r w q) o a h = absurd h
opens supply trail call (ShowHandle r) o a h = absurd h
opens supply trail call (TakeDecision r rights request) o a h = absurd (not_openings (outcome_of supply (TakeDecision r rights request)).notes o (tt, tt) h)
opens supply trail call (OpenAtOnce q request) o a (inl e) = (let is : o ≡ q = cc e in (ap Some (sym is), ap (λ (r : OpeningNote). r.grant) is ∙ a.2))
opens supply trail call (OpenAtOnce q request) o a (inr h) = absurd
    (not_openings (grant_outcome supply q (Terms (terms_for q request) ∷ Approved q.grant [] ∷ []) request.asks request.single None (instance_of q)).notes o
    (grant_no_opening supply q (Terms (terms_for q request) ∷ Approved q.grant [] ∷ []) request.asks request.single None (instance_of q) (tt, (tt, tt))) h)
opens supply trail call (OpenAsking q request modes) o a (inl e) = (let is : o ≡ q = cc e in (ap Some (sym is), ap (λ (r : OpeningNote). r.grant) is ∙ a.2))
opens supply trail call (OpenAsking q request modes) o a (inr h) = absurd
    (not_openings (Terms (terms_for q request) ∷ door_note supply q 0 ∷ Pended (round_for supply q modes) ∷ []) o (tt, (tt, (tt, tt))) h)
opens supply trail call (RenewDoor q) o a h = absurd (not_openings (outcome_of supply (RenewDoor q)).notes o (tt, tt) h)
opens supply trail call (CollectDecision q w d asks) o a h = absurd
    (not_openings (outcome_of supply (CollectDecision q w d asks)).notes o
    (grant_no_opening supply q (Approved q.grant d.rights ∷ []) asks w.single (if w.subject then d.subject else None) None (tt, tt)) h)
opens supply trail call (WrongReference q) o a h = absurd (not_openings (outcome_of supply (WrongReference q)).notes o (tt, tt) h)
opens supply trail call (LastWrongReference q) o a h = absurd (not_openings (outcome_of supply (LastWrongReference q)).notes o (tt, (tt, tt)) h)
opens supply trail call (RefuseAndFinalize q code) o a h = absurd (not_openings (outcome_of supply (RefuseAndFinalize q code)).notes o (tt, tt) h)
opens supply trail call (ModifyAtOnce q consent retired request) o a h =
    absurd (not_openings (outcome_of supply (ModifyAtOnce q consent retired request)).notes o
    (grant_no_opening supply q (retire retired ++ Terms (terms_for q request) ∷ Approved q.grant consent ∷ []) request.asks request.single None None
    (retire_no_opening retired (Terms (terms_for q request) ∷ Approved q.grant consent ∷ []) (tt, (tt, tt)))) h)
opens supply trail call (ModifyAsking q retired request modes) o a h =
    absurd (not_openings (outcome_of supply (ModifyAsking q retired request modes)).notes o
    (openings-append (retire retired ++ Terms (terms_for q request) ∷ []) (door_note supply q 0 ∷ Pended (round_for supply q modes) ∷ [])
    (retire_no_opening retired (Terms (terms_for q request) ∷ []) (tt, tt)) (tt, (tt, tt))) h)
opens supply trail call (CancelGrant q) o a h = absurd (not_openings (outcome_of supply (CancelGrant q)).notes o (tt, tt) h)
opens supply trail call (RotateToken q u key) o a h = absurd (not_openings (outcome_of supply (RotateToken q u key)).notes o (tt, (tt, tt)) h)
opens supply trail call (RevokeToken u true) o a h = absurd h
opens supply trail call (RevokeToken u false) o a h = absurd (not_openings (outcome_of supply (RevokeToken u false)).notes o (tt, tt) h)

token_until : (supply : Supply) (o : OpeningNote) (asks : List Ask) (k : ℕ) (t : TokenNote) → HasNote (map Issued (tokens_for supply o asks k)) (Issued t)
    → (t.grant ≡ o.grant) × (t.until ≤ o.end)
token_until supply o [] k t h = absurd h
token_until supply o (ask ∷ asks) k t (inl e) =
    let is : t ≡ token_for supply o ask k = cc e in
    let u : t.until ≡ min (supply.now + 3600) o.end = ap (λ (x : TokenNote). x.until) is in
    (ap (λ (x : TokenNote). x.grant) is, omega arith)
token_until supply o (ask ∷ asks) k t (inr h) = token_until supply o asks (k + 2) t h

-- an action issues tokens under an opening, which was there or is new
issues : (supply : Supply) (trail : List Note) (call : Call) (action : Action) (t : TokenNote) → Cause trail supply.now call action
    → HasNote (outcome_of supply action).notes (Issued t)
    → (o : OpeningNote) × (HasNote (outcome_of supply action).notes (Opened o) ⊎ HasNote trail (Opened o)) × (t.grant ≡ o.grant) × (t.until ≤ o.end)
issues supply trail call (TakeDecision r rights request) t a h = absurd (not_tokens (outcome_of supply (TakeDecision r rights request)).notes (tt, tt) t h)
issues supply trail call (OpenAtOnce o request) t a h =
    let k = token_until supply o request.asks 0 t
    (grant_token supply o (Opened o ∷ Terms (terms_for o request) ∷ Approved o.grant [] ∷ []) request.asks request.single None (instance_of o) t
    (not_tokens (Opened o ∷ Terms (terms_for o request) ∷ Approved o.grant [] ∷ []) (tt, (tt, (tt, tt)))) h) in
    (o, inl (inl refl), k.0, k.1)
issues supply trail call (OpenAsking o request modes) t a h = absurd
    (not_tokens (outcome_of supply (OpenAsking o request modes)).notes (tt, (tt, (tt, (tt, tt)))) t h)
issues supply trail call (RenewDoor o) t a h = absurd (not_tokens (outcome_of supply (RenewDoor o)).notes (tt, tt) t h)
issues supply trail call (CollectDecision o w d asks) t a h =
    let k = token_until supply o asks 0 t
    (grant_token supply o (Approved o.grant d.rights ∷ []) asks w.single (if w.subject then d.subject else None) None t
    (not_tokens (Approved o.grant d.rights ∷ []) (tt, tt)) h) in
    (o, inr (grant_named trail supply.now a.0.0 o a.0.2).opened, k.0, k.1)
issues supply trail call (WrongReference o) t a h = absurd (not_tokens (outcome_of supply (WrongReference o)).notes (tt, tt) t h)
issues supply trail call (LastWrongReference o) t a h = absurd (not_tokens (outcome_of supply (LastWrongReference o)).notes (tt, (tt, tt)) t h)
issues supply trail call (RefuseAndFinalize o code) t a h = absurd (not_tokens (outcome_of supply (RefuseAndFinalize o code)).notes (tt, tt) t h)
issues supply trail call (ModifyAtOnce o consent retired request) t a h =
    let before : List Note = retire retired ++ Terms (terms_for o request) ∷ Approved o.grant consent ∷ [] in
    let k = token_until supply o request.asks 0 t
    (grant_token supply o before request.asks request.single None None t
    (not_tokens before (retire_not_tokens retired (Terms (terms_for o request) ∷ Approved o.grant consent ∷ []) (tt, (tt, tt)))) h) in
    (o, inr (grant_named trail supply.now a.0.0 o a.0.2).opened, k.0, k.1)
issues supply trail call (ModifyAsking o retired request modes) t a h =
    absurd (elim (note_cases (retire retired ++ Terms (terms_for o request) ∷ []) (door_note supply o 0 ∷ Pended (round_for supply o modes) ∷ []) (Issued t) h) [
      | inl x ↦ not_tokens (retire retired ++ Terms (terms_for o request) ∷ []) (retire_not_tokens retired (Terms (terms_for o request) ∷ []) (tt, tt)) t x
      | inr y ↦ not_tokens (door_note supply o 0 ∷ Pended (round_for supply o modes) ∷ []) (tt, (tt, tt)) t y
    ])
issues supply trail call (CancelGrant o) t a h = absurd (not_tokens (outcome_of supply (CancelGrant o)).notes (tt, tt) t h)
issues supply trail call (RotateToken o u key) t a h =
    let until : t.until ≡ min (supply.now + 3600) o.end = ap (λ (x : TokenNote). x.until) (is h) in
    (o, inr (opening_noted trail u.grant o a.3).0, ap (λ (x : TokenNote). x.grant) (is h), omega arith)
  where
    is : HasNote (outcome_of supply (RotateToken o u key)).notes (Issued t) → t ≡ successor supply o u key
    is (inl x) = cc x
    is (inr (inl x)) = cc x
    is (inr (inr x)) = absurd x
issues supply trail call (RevokeToken u false) t a h = absurd (not_tokens (outcome_of supply (RevokeToken u false)).notes (tt, tt) t h)
issues supply trail call _ t a h = absurd h

-- a note of the trail is a new one or an old one
trail_cases : (e : Event) (past : List Event) (n : Note) → HasNote (trail_of (e ∷ past)) n → HasNote e.notes n ⊎ HasNote (trail_of past) n
trail_cases e past n h = elim (note_cases (reverse e.notes) (trail_of past) n h) [
  | inl a ↦ inl (subst (λ (ns : List Note). HasNote ns n) (reverse-reverse e.notes) (note-reverse (reverse e.notes) n a))
  | inr b ↦ inr b
]

opened_low : (trail : List Note) (o : OpeningNote) → IsSound trail → HasNote trail (Opened o) → o.grant < next_grant trail
opened_low trail o sound h = sound_note (next_grant trail) (first_serial trail) trail (Opened o) sound h

issued_low : (trail : List Note) (t : TokenNote) → IsSound trail → HasNote trail (Issued t) → t.grant < next_grant trail
issued_low trail t sound h = (sound_note (next_grant trail) (first_serial trail) trail (Issued t) sound h).1

one_opening : (rules : Setup) (past : List Event) → IsLegalPast rules past → IsOneOpening (trail_of past)
one_opening rules [] legal o p ho hp e = absurd ho
one_opening rules (x ∷ past) legal o p ho hp e =
    at (trail_cases x past (Opened o) ho) (trail_cases x past (Opened p) hp) (one_opening rules past legal.1)
  where
    new : (q : OpeningNote) → HasNote x.notes (Opened q) → (opening_by (chosen rules past x legal.0).action ≡ Some q) × (q.grant ≡ next_grant (trail_of past))
    new q h = opens (supply_at past x.moment x.draw) (trail_of past) x.call (chosen rules past x legal.0).action q
        (chosen rules past x legal.0).cause (subst (λ (ns : List Note). HasNote ns (Opened q)) (chosen rules past x legal.0).notes h)

    at : HasNote x.notes (Opened o) ⊎ HasNote (trail_of past) (Opened o) → HasNote x.notes (Opened p) ⊎ HasNote (trail_of past) (Opened p)
        → IsOneOpening (trail_of past) → o ≡ p
    at (inl a) (inl b) ih = let k = sym (new o a).0 ∙ (new p b).0 in cc k
    at (inl a) (inr b) ih =
        let n = (new o a).1 in
        let l : p.grant < next_grant (trail_of past) = opened_low (trail_of past) p (past_sound rules past legal.1) b in absurd (omega arith)
    at (inr a) (inl b) ih =
        let n = (new p b).1 in
        let l : o.grant < next_grant (trail_of past) = opened_low (trail_of past) o (past_sound rules past legal.1) a in absurd (omega arith)
    at (inr a) (inr b) ih = ih o p a b e

ends_bound : (rules : Setup) (past : List Event) → IsLegalPast rules past → EndsBound (trail_of past)
ends_bound rules [] legal t o ht ho e = absurd ht
ends_bound rules (x ∷ past) legal t o ht ho e = at (trail_cases x past (Issued t) ht) (ends_bound rules past legal.1)
  where
    at : HasNote x.notes (Issued t) ⊎ HasNote (trail_of past) (Issued t) → EndsBound (trail_of past) → t.until ≤ o.end
    at (inl a) ih =
        let k = issues (supply_at past x.moment x.draw) (trail_of past) x.call (chosen rules past x legal.0).action t (chosen rules past x legal.0).cause
        (subst (λ (ns : List Note). HasNote ns (Issued t)) (chosen rules past x legal.0).notes a) in
        let there : HasNote (trail_of (x ∷ past)) (Opened k.0) = elim k.1 [
          | inl new ↦ note-append_left (reverse x.notes) (trail_of past) (Opened k.0)
              (note-reverse x.notes (Opened k.0) (subst (λ (ns : List Note). HasNote ns (Opened k.0)) (sym (chosen rules past x legal.0).notes) new))
          | inr old ↦ note-append_right (reverse x.notes) (trail_of past) (Opened k.0) old
        ] in
        let same : o ≡ k.0 = one_opening rules (x ∷ past) legal o k.0 ho there (e ∙ k.2) in
        let bound : t.until ≤ k.0.end = k.3 in
        let end : o.end ≡ k.0.end = ap (λ (q : OpeningNote). q.end) same in omega arith
    at (inr b) ih = by_opening (trail_cases x past (Opened o) ho)
      where
        by_opening : HasNote x.notes (Opened o) ⊎ HasNote (trail_of past) (Opened o) → t.until ≤ o.end
        by_opening (inr old) = ih t o b old e
        by_opening (inl new) =
            let k = opens (supply_at past x.moment x.draw) (trail_of past) x.call (chosen rules past x legal.0).action o
            (chosen rules past x legal.0).cause (subst (λ (ns : List Note). HasNote ns (Opened o)) (chosen rules past x legal.0).notes new) in
            let n = k.1 in
            let l : t.grant < next_grant (trail_of past) = issued_low (trail_of past) t (past_sound rules past legal.1) b in absurd (omega arith)

-- ---- live tokens

-- a token that is alive, before its until, is live
live_now : (rules : Setup) (past : List Event) (chain : List Text) (n : ℕ) (t : TokenNote) → IsLegalPast rules past → IsAlive (trail_of past) chain t
    → n < t.until → is_live (trail_of past) n t ≡ true
live_now rules past chain n t legal alive low =
    and_from (not (list_any (is_retirement t.serial) (trail_of past)) && nat_lt n t.until) (is_approved (grant_state (trail_of past) t.grant n))
    (and_from (not (list_any (is_retirement t.serial) (trail_of past))) (nat_lt n t.until) (ap not alive.kept) (lt-ltb n t.until low))
    (ap is_approved (ap (λ b. if b || has_ended (first_of (opening_in t.grant) (trail_of past)) n then IsFinalized else state_after
    (first_of (state_change_in t.grant) (trail_of past)) n) alive.unended
    ∙ ap (λ b. if b then IsFinalized else state_after (first_of (state_change_in t.grant) (trail_of past)) n)
    (not_past (first_of (opening_in t.grant) (trail_of past)) refl)
    ∙ ap (λ r. state_after r n) alive.approved))
  where
    not_past : (r : Option OpeningNote) → first_of (opening_in t.grant) (trail_of past) ≡ r → has_ended r n ≡ false
    not_past None e = refl
    not_past (Some o) e =
        let noted = opening_noted (trail_of past) t.grant o e in
        let bound : t.until ≤ o.end = ends_bound rules past legal t o alive.issued noted.0 noted.1 in
        false_from_ne_true (nat_le o.end n) (λ k. let j : o.end ≤ n = leb-true o.end n k in omega arith)

-- ---- what came

-- a token of the list of entries with the value, that passes the test, before its until, and not ended in the whole
abbrev pub Comes : List Event → ℕ → Text → (TokenOut → Bool) → List Event → Type 0
Comes whole n v test past = (p : ℕ) × (t : TokenNote) × IssuedAt past p t × (t.value ≡ v) × (test (token_out 0 t) ≡ true) × (n < t.until)
    × (is_ended t.manage (origin_of whole t.manage) p whole ≡ false)

-- the test doesn't look at the time
abbrev pub IsTimeless : (TokenOut → Bool) → Type 0
IsTimeless test = (n m : ℕ) (t : TokenNote) → test (token_out n t) ≡ test (token_out m t)

now_more : (past : List Event) (m : ℕ) → now_at past 0 ≤ now_at past m
now_more [] m = omega arith
now_more (e ∷ past) m = omega arith

-- what the entry e hands out comes, by the notes
entry_comes : (rules : Setup) (whole past : List Event) (e : Event) (n : ℕ) (v : Text) (test : TokenOut → Bool) → IsNext rules past e → IsTimeless test
    → now_at past e.moment ≤ n
    → Decides (list_any (λ t. same_text t.value v && test t && has_come whole n past e t) (handed_tokens e.reply))
    ((t : TokenNote) × HasNote e.notes (Issued t) × (t.value ≡ v) × (test (token_out 0 t) ≡ true) × (n < t.until)
    × (is_ended t.manage (origin_of whole t.manage) (length past) whole ≡ false))
entry_comes rules whole past e n v test next timeless low =
    let supply = supply_at past e.moment e.draw in
    let why = chosen rules past e next in
    let action = why.action in
    let f : TokenOut → Bool = λ t. same_text t.value v && test t && has_come whole n past e t in
    let h = hands supply action f in (
      (λ k.
          let r = h.0 (subst (λ (x : Reply). list_any f (handed_tokens x) ≡ true) why.reply k) in
          let t = r.0 in
          let top = and_parts (same_text t.value v && test (token_out supply.now t)) (has_come whole n past e (token_out supply.now t)) r.2 in
          let ab = and_parts (same_text t.value v) (test (token_out supply.now t)) top.0 in
          let cd = and_parts (nat_lt n (now_at past e.moment + (t.until - supply.now))) (not (is_ended t.manage (origin_of whole t.manage) (length past) whole))
          top.1 in
          let time : n < now_at past e.moment + (t.until - now_at past e.moment) = (Decides-ltb n (now_at past e.moment + (t.until - supply.now))).0 cd.0 in (
            t,
            subst (λ (ns : List Note). HasNote ns (Issued t)) (sym why.notes) r.1,
            (bytes_eq-Decides t.value v).0 ab.0,
            timeless 0 supply.now t ∙ ab.1,
            omega arith,
            not-true (is_ended t.manage (origin_of whole t.manage) (length past) whole) cd.1,
          )),
      (λ g.
          let t = g.0 in
          let until : n < t.until = g.4 in
          subst (λ (x : Reply). list_any f (handed_tokens x) ≡ true) (sym why.reply)
          (h.1 (
            t,
            subst (λ (ns : List Note). HasNote ns (Issued t)) why.notes g.1,
            and_from (same_text t.value v && test (token_out supply.now t)) (has_come whole n past e (token_out supply.now t))
                (and_from (same_text t.value v) (test (token_out supply.now t)) ((bytes_eq-Decides t.value v).1 g.2) (timeless supply.now 0 t ∙ g.3))
                (and_from (nat_lt n (now_at past e.moment + (t.until - supply.now))) (not (is_ended t.manage (origin_of whole t.manage) (length past) whole))
                (lt-ltb n (now_at past e.moment + (t.until - now_at past e.moment)) (omega arith)) (ap not g.5)),
          ))),
    )

comes : (rules : Setup) (whole past : List Event) (n : ℕ) (v : Text) (test : TokenOut → Bool) → IsLegalPast rules past → IsTimeless test → now_at past 0 ≤ n
    → Decides (comes_from whole n v test past) (Comes whole n v test past)
comes rules whole [] n v test legal timeless low = ((λ k. cc k), (λ g. absurd g.2))
comes rules whole (e ∷ past) n v test legal timeless low =
    let m = now_more past e.moment in
    let here = entry_comes rules whole past e n v test legal.0 timeless (omega arith) in
    let below = comes rules whole past n v test legal.1 timeless (omega arith) in (
      (λ k. elim (or_cases (list_any (λ t. same_text t.value v && test t && has_come whole n past e t) (handed_tokens e.reply)) (comes_from whole n v test past)
          k) [
            | inl a ↦ let r = here.0 a in (length past, r.0, inl (refl, r.1), r.2, r.3, r.4, r.5)
            | inr b ↦ let r = below.0 b in (r.0, r.1, inr r.2, r.3, r.4, r.5, r.6)
          ]),
      (λ g. elim g.2 [
        | inl a ↦ or_left (list_any (λ t. same_text t.value v && test t && has_come whole n past e t) (handed_tokens e.reply)) (comes_from whole n v test past)
            (here.1 (g.1, a.1, g.3, g.4, g.5, subst (λ (q : ℕ). is_ended g.1.manage (origin_of whole g.1.manage) q whole ≡ false) a.0 g.6))
        | inr b ↦ or_right (list_any (λ t. same_text t.value v && test t && has_come whole n past e t) (handed_tokens e.reply)) (comes_from whole n v test past)
            (below.1 (g.0, g.1, b, g.3, g.4, g.5, g.6))
      ]),
    )

-- a live token with the value that passes the test
abbrev pub Lives : List Note → ℕ → Text → (TokenOut → Bool) → Type 0
Lives trail n v test = (t : TokenNote) × HasNote trail (Issued t) × (t.value ≡ v) × (test (token_out 0 t) ≡ true) × (is_live trail n t ≡ true)

until_of : (trail : List Note) (n : ℕ) (t : TokenNote) → is_live trail n t ≡ true → n < t.until
until_of trail n t h =
    (Decides-ltb n t.until).0 (and_parts (not (list_any (is_retirement t.serial) trail)) (nat_lt n t.until)
    (and_parts (not (list_any (is_retirement t.serial) trail) && nat_lt n t.until) (is_approved (grant_state trail t.grant n)) h).0).1

pub came_is_live : (rules : Setup) (past : List Event) (n : ℕ) (v : Text) (test : TokenOut → Bool) → IsLegalPast rules past → IsShort past → IsTimeless test
    → now_at past 0 ≤ n
    → Decides (came past n v test) (Lives (trail_of past) n v test)
came_is_live rules past n v test legal short timeless low =
    let c = comes rules past past n v test legal timeless low in (
      (λ k. let r = c.0 k in alive r.0 r.1 r.2 r.3 r.4 r.5 r.6 (all_ended_or_alive rules past legal short r.0 r.1 r.2)),
      (λ g.
          let at_p = noted_issued past g.0 g.1 in
          c.1 (
            at_p.0,
            g.0,
            at_p.1,
            g.2,
            g.3,
            until_of (trail_of past) n g.0 g.4,
            running at_p.0 g.0 g.4
                (all_ended_or_alive rules past legal short at_p.0 g.0 at_p.1),
          )),
    )
  where
    alive : (p : ℕ) (t : TokenNote) → IssuedAt past p t → t.value ≡ v → test (token_out 0 t) ≡ true → n < t.until
        → is_ended t.manage (origin_of past t.manage) p past ≡ false → EndedOrAlive past p t → Lives (trail_of past) n v test
    alive p t h value passes until not_ended (inl (ended, over)) = let k = sym not_ended ∙ ended in cc k
    alive p t h value passes until not_ended (inr (false_end, q_low, living)) =
        (t, issued_noted past p t h, value, passes, live_now rules past _ n t legal living until)

    running : (p : ℕ) (t : TokenNote) → is_live (trail_of past) n t ≡ true → EndedOrAlive past p t → is_ended t.manage (origin_of past t.manage) p past ≡ false
    running p t live (inl (ended, over)) = absurd (live_not_over (trail_of past) n t live over)
    running p t live (inr (false_end, q_low, living)) = false_end

-- ---- what an introspection is told

first_has : {B : Type 0} (look : Note → Option B) (ns : List Note) (n : Note) (y : B) → HasNote ns n → look n ≡ Some y → first_of look ns ≡ None → ⊥
first_has look [] n y h e k = h
first_has {B} look (m ∷ ns) n y (inl a) e k = at (look m) (ap look (sym a) ∙ e) k
  where
    at : (o : Option B) → o ≡ Some y → option_or o (first_of look ns) ≡ None → ⊥
    at None p q = cc p
    at (Some x) p q = cc q
first_has {B} look (m ∷ ns) n y (inr b) e k = first_has look ns n y b e (rest (look m) (first_of look ns) k)
  where
    rest : (o r : Option B) → option_or o r ≡ None → r ≡ None
    rest None r q = q
    rest (Some x) r q = cc q

told : (rules : Setup) (past : List Event) (supply : Supply) (n : ℕ) (server value : Text) (binding : Option Binding) (wanted : Option (List Right))
    (found : Option TokenNote) → IsLegalPast rules past → IsShort past → now_at past 0 ≤ n
    → live_token (trail_of past) n value ≡ found
    → tells rules past n (Introspect server value binding wanted)
    (outcome_of supply (show_token (server_names (key_of rules server)) binding wanted found)).reply ≡ true
told rules past supply n server value binding wanted None legal short low e =
    let test : TokenOut → Bool = λ t. suits (server_names (key_of rules server)) binding wanted t.rights t.bearer in
    let c = came_is_live rules past n value test legal short (λ a b t. refl) low in
    ap not (false_from_ne_true (came past n value test) (λ k.
    let l = c.0 k in
    let live_test : TokenNote → Bool = λ t. same_text t.value value && is_live (trail_of past) n t in
    first_has (token_in live_test) (trail_of past) (Issued l.0) l.0 l.1
    (ap (λ b. some_if b l.0) (and_from (same_text l.0.value value) (is_live (trail_of past) n l.0) ((bytes_eq-Decides l.0.value value).1 l.2) l.4)) e))
told rules past supply n server value binding wanted (Some t) legal short low e = at (suits names binding wanted t.rights t.bearer) refl
  where
    names : List Text
    names = server_names (key_of rules server)

    found : (u : Note) × HasNote (trail_of past) u × (token_in (λ x. same_text x.value value && is_live (trail_of past) n x) u ≡ Some t)
    found = first_noted (token_in (λ x. same_text x.value value && is_live (trail_of past) n x)) (trail_of past) t e

    is : (found.0 ≡ Issued t) × ((same_text t.value value && is_live (trail_of past) n t) ≡ true)
    is = token_found (λ x. same_text x.value value && is_live (trail_of past) n x) t found.0 found.2

    there : HasNote (trail_of past) (Issued t)
    there = subst (HasNote (trail_of past)) is.0 found.1

    parts : (same_text t.value value ≡ true) × (is_live (trail_of past) n t ≡ true)
    parts = and_parts (same_text t.value value) (is_live (trail_of past) n t) is.1

    at : (b : Bool) → suits (server_names (key_of rules server)) binding wanted t.rights t.bearer ≡ b
        → tells rules past n (Introspect server value binding wanted)
        (outcome_of supply (show_token (server_names (key_of rules server)) binding wanted (Some t))).reply ≡ true
    at true s = rw s ((came_is_live rules past n value (λ x. suits (server_names (key_of rules server)) binding wanted x.rights x.bearer) legal short
        (λ a b x. refl) low).1
        (t, there, (bytes_eq-Decides t.value value).0 parts.0, s, parts.1))
    at false s = rw s (ap not (false_from_ne_true (came past n value (λ x. suits (server_names (key_of rules server)) binding wanted x.rights x.bearer)) (λ k.
        let l = (came_is_live rules past n value (λ x. suits (server_names (key_of rules server)) binding wanted x.rights x.bearer) legal short (λ a b x. refl)
        low).0 k in
        let same : Issued l.0 ≡ Issued t = note_one (trail_of past) (Issued l.0) (Issued t) value (distinct rules past legal short) l.1 there
        (inr (inl (sym l.2))) (inr (inl (sym ((bytes_eq-Decides t.value value).0 parts.0)))) in
        let u : l.0 ≡ t = cc same in
        let yes : suits (server_names (key_of rules server)) binding wanted t.rights t.bearer
        ≡ true = subst (λ (x : TokenNote). suits (server_names (key_of rules server)) binding wanted x.rights x.bearer ≡ true) u l.3 in
        both_ways (suits (server_names (key_of rules server)) binding wanted t.rights t.bearer) s yes)))

told_or_refused : (rules : Setup) (past : List Event) (supply : Supply) (server value : Text) (binding : Option Binding) (wanted : Option (List Right))
    (b : Bool) → IsLegalPast rules past → IsShort past → now_at past 0 ≤ supply.now
    → tells rules past supply.now (Introspect server value binding wanted)
    (outcome_of supply (if b then show_token (server_names (key_of rules server)) binding wanted (live_token (trail_of past) supply.now value) else Refuse
    InvalidAccess)).reply ≡ true
told_or_refused rules past supply server value binding wanted true legal short low = told rules past supply supply.now server value binding wanted
    (live_token (trail_of past) supply.now value) legal short low refl
told_or_refused rules past supply server value binding wanted false legal short low = refl

tells_call : (rules : Setup) (past : List Event) (supply : Supply) (call : Call) → IsLegalPast rules past → IsShort past → now_at past 0 ≤ supply.now
    → tells rules past supply.now call (outcome_of supply (action_of rules supply (trail_of past) call)).reply ≡ true
tells_call rules past supply (Introspect server value binding wanted) legal short low =
    told_or_refused rules past supply server value binding wanted (serves_all (server_names (key_of rules server)) wanted) legal short low
tells_call rules past supply _ legal short low = refl

-- Each introspection tells what came.
pub tells_right : (rules : Setup) (past : List Event) → IsLegalPast rules past → IsShort past → tells_all rules past ≡ true
tells_right rules [] legal short = refl
tells_right rules (e ∷ past) legal short =
    let supply = supply_at past e.moment e.draw in
    and_from (tells rules past (now_at past e.moment) e.call e.reply) (tells_all rules past)
    (ap (tells rules past (now_at past e.moment) e.call) legal.0.reply
    ∙ tells_call rules past supply e.call legal.1 (short_before e past short) (now_more past e.moment))
    (tells_right rules past legal.1 (short_before e past short))
