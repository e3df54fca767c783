-- What stands behind the notes of a legal history: an opened grant has terms, and an issued token has an opened grant.
use Rattle.std.proofs.Common.{ℕ, ◌≡◌, ◌+◌, List, [], ◌∷◌, ◌++◌, Bool, false, length, map, reverse, refl, sym, subst, inl, inr, Option, Some, None}
use Rattle.std.specs.Prelude.{◌*◌, if◌then◌else◌}
use Rattle.gnap_model.specs.Common.{Text, first_of}
use Rattle.gnap_laws.specs.Types.{Setup, Ask, Call, OpeningNote, TermsNote, TokenNote, Note}
use Rattle.gnap_model.specs.Notes.{Event, trail_of}
use Rattle.gnap_model.specs.declared.notes.Note.TheVariants.{Opened, Terms, Approved, Issued, Pended}
use Rattle.gnap_model.specs.Standing.{opening_in, terms_in, terms_of}
use Rattle.gnap_model.specs.Actions.{Action, Supply, outcome_of, grant_outcome, tokens_for, door_note, terms_for, instance_of, retire, round_for}
use Rattle.gnap_model.specs.Actions.Action.{OpenAtOnce, OpenAsking, TakeDecision, RenewDoor, CollectDecision, WrongReference, LastWrongReference, RefuseAndFinalize, ModifyAtOnce, ModifyAsking, CancelGrant, RotateToken, RevokeToken}
use Rattle.gnap_model.specs.Answer.{supply_at}
use Rattle.gnap_model.specs.Legal.{IsLegalPast}
use Rattle.gnap_laws.proofs.Causes.{chosen, Cause}
use Rattle.gnap_model.proofs.TrailNotes.{found_in, some_if_same, opened_found, HasNote, note-append_right, note-append_left, note-reverse, EachNote, each-append, each-reverse, each_more, each_of, opening_noted, grant_named}

-- ---- an opened grant has terms in the trail, and an issued token has an opened grant there

abbrev pub HasOrigin : List Note → Note → Type 0
HasOrigin trail (Opened o) = (w : TermsNote) × HasNote trail (Terms w) × (w.grant ≡ o.grant)
HasOrigin trail (Issued t) = (o : OpeningNote) × HasNote trail (Opened o) × (o.grant ≡ t.grant)
HasOrigin trail _ = Unit {0}

origin_more : (trail more : List Note) → ((note : Note) → HasNote trail note → HasNote more note) → (note : Note) → HasOrigin trail note → HasOrigin more note
origin_more trail more grows (Opened o) h = (h.0, grows (Terms h.0) h.1, h.2)
origin_more trail more grows (Issued t) h = (h.0, grows (Opened h.0) h.1, h.2)
origin_more trail more grows _ h = tt

tokens_origin : (trail : List Note) (supply : Supply) (o p : OpeningNote) (asks : List Ask) (k : ℕ) → HasNote trail (Opened p) → p.grant ≡ o.grant
    → EachNote (HasOrigin trail) (map Issued (tokens_for supply o asks k))
tokens_origin trail supply o p [] k h e = tt
tokens_origin trail supply o p (ask ∷ asks) k h e = ((p, h, e), tokens_origin trail supply o p asks (k + 2) h e)

grant_origin : (trail : List Note) (supply : Supply) (o p : OpeningNote) (before : List Note) (asks : List Ask) (single : Bool) (subject instance : Option Text)
    → HasNote trail (Opened p) → p.grant ≡ o.grant
    → EachNote (HasOrigin trail) before → EachNote (HasOrigin trail) (grant_outcome supply o before asks single subject instance).notes
grant_origin trail supply o p before asks single subject instance h e b =
    each-append (HasOrigin trail) (before ++ map Issued (tokens_for supply o asks 0)) (door_note supply o (2 * length asks) ∷ [])
    (each-append (HasOrigin trail) before (map Issued (tokens_for supply o asks 0)) b (tokens_origin trail supply o p asks 0 h e)) (tt, tt)

retire_origin : (trail : List Note) (ts : List TokenNote) (rest : List Note) → EachNote (HasOrigin trail) rest → EachNote (HasOrigin trail) (retire ts ++ rest)
retire_origin trail [] rest h = h
retire_origin trail (t ∷ ts) rest h = (tt, retire_origin trail ts rest h)

-- The notes of an action, where `whole` has the trail and these notes.
action_origin : (supply : Supply) (trail whole : List Note) (call : Call) (action : Action) → Cause trail supply.now call action
    → ((note : Note) → HasNote trail note → HasNote whole note) → ((note : Note) → HasNote (outcome_of supply action).notes note → HasNote whole note)
    → EachNote (HasOrigin whole) (outcome_of supply action).notes
action_origin supply trail whole call (TakeDecision r rights request) a old new = (tt, tt)
action_origin supply trail whole call (OpenAtOnce o request) a old new =
    grant_origin whole supply o o (Opened o ∷ Terms (terms_for o request) ∷ Approved o.grant [] ∷ []) request.asks request.single None (instance_of o)
    (new (Opened o) (inl refl)) refl ((terms_for o request, new (Terms (terms_for o request)) (inr (inl refl)), refl), (tt, (tt, tt)))
action_origin supply trail whole call (OpenAsking o request modes) a old new =
    each-append (HasOrigin whole) (Opened o ∷ Terms (terms_for o request) ∷ []) (door_note supply o 0 ∷ Pended (round_for supply o modes) ∷ [])
    ((terms_for o request, new (Terms (terms_for o request)) (inr (inl refl)), refl), (tt, tt)) (tt, (tt, tt))
action_origin supply trail whole call (RenewDoor o) a old new = (tt, tt)
action_origin supply trail whole call (CollectDecision o w d asks) a old new =
    grant_origin whole supply o o (Approved o.grant d.rights ∷ []) asks w.single (if w.subject then d.subject else None) None
    (old (Opened o) (grant_named trail supply.now a.0.0 o a.0.2).opened) refl (tt, tt)
action_origin supply trail whole call (WrongReference o) a old new = (tt, tt)
action_origin supply trail whole call (LastWrongReference o) a old new = (tt, (tt, tt))
action_origin supply trail whole call (RefuseAndFinalize o code) a old new = (tt, tt)
action_origin supply trail whole call (ModifyAtOnce o consent retired request) a old new =
    grant_origin whole supply o o (retire retired ++ Terms (terms_for o request) ∷ Approved o.grant consent ∷ []) request.asks request.single None None
    (old (Opened o) (grant_named trail supply.now a.0.0 o a.0.2).opened) refl
    (retire_origin whole retired (Terms (terms_for o request) ∷ Approved o.grant consent ∷ []) (tt, (tt, tt)))
action_origin supply trail whole call (ModifyAsking o retired request modes) a old new =
    each-append (HasOrigin whole) (retire retired ++ Terms (terms_for o request) ∷ []) (door_note supply o 0 ∷ Pended (round_for supply o modes) ∷ [])
    (retire_origin whole retired (Terms (terms_for o request) ∷ []) (tt, tt)) (tt, (tt, tt))
action_origin supply trail whole call (CancelGrant o) a old new = (tt, tt)
action_origin supply trail whole call (RotateToken o t key) a old new =
    (tt, ((o, old (Opened o) (opening_noted trail t.grant o a.3).0, refl), tt))
action_origin supply trail whole call (RevokeToken t false) a old new = (tt, tt)
action_origin supply trail whole call _ a old new = tt

abbrev pub HaveOrigins : List Note → Type 0
HaveOrigins trail = EachNote (HasOrigin trail) trail

pub past_origins : (rules : Setup) (past : List Event) → IsLegalPast rules past → HaveOrigins (trail_of past)
past_origins rules [] legal = tt
past_origins rules (e ∷ past) legal =
    let trail = trail_of past in
    let whole = reverse e.notes ++ trail in
    let why = chosen rules past e legal.0 in
    let supply = supply_at past e.moment e.draw in
    let old : (note : Note) → HasNote trail note → HasNote whole note = note-append_right (reverse e.notes) trail in
    let new : (note : Note) → HasNote e.notes note
    → HasNote whole note = λ note h. note-append_left (reverse e.notes) trail note (note-reverse e.notes note h) in
    let added : EachNote (HasOrigin whole) e.notes = subst (EachNote (HasOrigin whole)) (sym why.notes)
    (action_origin supply trail whole e.call why.action why.cause old (λ note h. new note (subst (λ (ns : List Note). HasNote ns note) (sym why.notes) h))) in
    each-append (HasOrigin whole) (reverse e.notes) trail (each-reverse (HasOrigin whole) e.notes added)
    (each_more (HasOrigin trail) (HasOrigin whole) trail (origin_more trail whole old) (past_origins rules past legal.1))

-- ---- so look-ups find them

pub opened_terms : (trail : List Note) (o : OpeningNote) → HaveOrigins trail → HasNote trail (Opened o) → (w : TermsNote) × (terms_of trail o.grant ≡ Some w)
opened_terms trail o whole h =
    let origin = each_of (HasOrigin trail) trail (Opened o) whole h in
    found_in (terms_in o.grant) trail (Terms origin.0) origin.0 origin.1 (some_if_same origin.0.grant o.grant origin.0 origin.2)

pub issued_opened : (trail : List Note) (t : TokenNote) → HaveOrigins trail → HasNote trail (Issued t)
    → (o : OpeningNote) × (first_of (opening_in t.grant) trail ≡ Some o)
issued_opened trail t whole h =
    let origin = each_of (HasOrigin trail) trail (Issued t) whole h in opened_found trail origin.0 t.grant origin.1 origin.2
