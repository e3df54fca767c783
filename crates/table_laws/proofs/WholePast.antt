-- A legal history's notes are whole, and its entries change the tables as `after_notes` says.
use Rattle.std.proofs.Common.{ℕ, ◌⊎◌, ◌≡◌, ◌+◌, ◌*◌, true, false, List, [], ◌∷◌, ◌++◌, length, map, reverse, refl, sym, ◌∙◌, ap, subst, inl, inr, append_assoc, Option, Some, None}
use Rattle.std.specs.Prelude.{◌==◌}
use Rattle.std.specs.Option.{option_or}
use Rattle.std.proofs.lemmas.Bool.Decides.{Decides-eqb}
use Rattle.std.proofs.lemmas.List.{reverse-reverse}
use Rattle.gnap_model.specs.Common.{Text, first_of}
use Rattle.gnap_model.specs.declared.objects.Ask.{Ask}
use Rattle.gnap_model.specs.declared.objects.Setup.{Setup}
use Rattle.gnap_model.specs.declared.notes.OpeningNote.{OpeningNote}
use Rattle.gnap_model.specs.declared.notes.TokenNote.{TokenNote}
use Rattle.gnap_model.specs.declared.notes.Note.{Note}
use Rattle.gnap_model.specs.declared.notes.Note.TheVariants.{Opened, Terms, Approved, Issued, Door, Pended, DecidedAs, Finalized, Wrong, Retired}
use Rattle.gnap_model.specs.Notes.{Event, trail_of, now_at}
use Rattle.gnap_model.specs.Standing.{opening_in, door_in}
use Rattle.gnap_model.specs.Actions.{Action, Supply, outcome_of, tokens_for, door_note, terms_for, retire, round_for}
use Rattle.gnap_model.specs.Actions.Action.{OpenAtOnce, OpenAsking, TakeDecision, RenewDoor, CollectDecision, WrongReference, LastWrongReference, RefuseAndFinalize, ModifyAtOnce, ModifyAsking, CancelGrant, RotateToken, RevokeToken}
use Rattle.gnap_model.specs.Answer.{supply_at, action_of}
use Rattle.gnap_model.specs.Legal.{IsLegalPast, IsNext}
use Rattle.gnap_laws.proofs.Causes.{cause_of}
use Rattle.gnap_model.proofs.TrailNotes.{HasNote, note-append_right, note-append_left, note-reverse, EachNote, each-append, each_of}
use Rattle.gnap_model.proofs.LookUps.{first_of-append}
use Rattle.gnap_laws.proofs.Came.{note_cases}
use Rattle.gnap_laws.proofs.Opened.{past_origins, opened_terms, issued_opened}
use Rattle.gnap_laws.proofs.Sound.{past_sound}
use Rattle.gnap_tables.specs.Tables.{tables_of, after_notes}
use Rattle.table_laws.specs.AddableNotes.{CanFollow, CanAllFollow}
use Rattle.gnap_tables.proofs.Lists.{reverse-cons}
use Rattle.table_laws.proofs.GrantsAfter.{is_another}
use Rattle.table_laws.proofs.TablesAfter.{tables_after}
use Rattle.table_laws.proofs.SweptTables.{IsOpenedOnce, HaveGrants}
use Rattle.table_laws.proofs.Bridges.{HaveDoors}
use Rattle.table_laws.proofs.ActionsAgree.{IsWhole}
use Rattle.table_laws.proofs.Known.{past_known}
use Rattle.table_laws.proofs.MoreCauses.{more_cause}
use Rattle.table_laws.proofs.NotesOfAnswers.{action_follows}

-- the notes of an entry may be added
pub entry_follows : (rules : Setup) (past : List Event) (e : Event) → IsLegalPast rules past → IsNext rules past e
    → CanAllFollow (now_at past e.moment) (trail_of past) e.notes
entry_follows rules past e legal next =
    let supply = supply_at past e.moment e.draw in
    subst (CanAllFollow (now_at past e.moment) (trail_of past)) (sym next.notes)
    (action_follows supply (trail_of past) e.call (action_of rules supply (trail_of past) e.call) (past_sound rules past legal) (past_known rules past legal)
    refl
    (cause_of rules supply (trail_of past) e.call) (more_cause rules supply (trail_of past) e.call))

-- ---- each grant is opened once

once_next : (n : Note) (trail : List Note) (now : ℕ) → CanFollow now trail n → IsOpenedOnce trail → IsOpenedOnce (n ∷ trail)
once_next (Opened p) trail now can once o (inl e) =
    let same : o ≡ p = cc e in
    let self : (p.grant == o.grant) ≡ true = (Decides-eqb p.grant o.grant).1 (ap (λ (x : OpeningNote). x.grant) (sym same)) in
    (let found : first_of (opening_in o.grant) (Opened p ∷ trail) ≡ Some p = rw self refl in found) ∙ ap (λ (x : OpeningNote). Some x) (sym same)
once_next (Opened p) trail now can once o (inr h) =
    let other : (p.grant == o.grant) ≡ false = is_another trail p.grant o can.0.opening h in rw other (once o h)
once_next (Terms w) trail now can once o (inl e) = cc e
once_next (Terms w) trail now can once o (inr h) = once o h
once_next (Approved k c) trail now can once o (inl e) = cc e
once_next (Approved k c) trail now can once o (inr h) = once o h
once_next (Issued t) trail now can once o (inl e) = cc e
once_next (Issued t) trail now can once o (inr h) = once o h
once_next (Door k v x) trail now can once o (inl e) = cc e
once_next (Door k v x) trail now can once o (inr h) = once o h
once_next (Pended r) trail now can once o (inl e) = cc e
once_next (Pended r) trail now can once o (inr h) = once o h
once_next (DecidedAs d) trail now can once o (inl e) = cc e
once_next (DecidedAs d) trail now can once o (inr h) = once o h
once_next (Finalized k) trail now can once o (inl e) = cc e
once_next (Finalized k) trail now can once o (inr h) = once o h
once_next (Wrong k) trail now can once o (inl e) = cc e
once_next (Wrong k) trail now can once o (inr h) = once o h
once_next (Retired s w) trail now can once o (inl e) = cc e
once_next (Retired s w) trail now can once o (inr h) = once o h

once_after : (notes trail : List Note) (now : ℕ) → CanAllFollow now trail notes → IsOpenedOnce trail → IsOpenedOnce (reverse notes ++ trail)
once_after [] trail now can once = once
once_after (n ∷ notes) trail now can once =
    let moved : reverse (n ∷ notes) ++ trail ≡ reverse notes ++ (n ∷ trail) = ap (λ (ns : List Note). ns ++ trail) (reverse-cons n notes)
    ∙ append_assoc (reverse notes) (n ∷ []) trail in
    subst IsOpenedOnce (sym moved) (once_after notes (n ∷ trail) now can.1 (once_next n trail now can.0 once))

pub past_once : (rules : Setup) (past : List Event) → IsLegalPast rules past → IsOpenedOnce (trail_of past)
past_once rules [] legal = λ o h. absurd h
past_once rules (e ∷ past) legal = once_after e.notes (trail_of past) (now_at past e.moment) (entry_follows rules past e legal.1 legal.0)
    (past_once rules past legal.1)

-- ---- each grant has a continuation value

-- an opening is among notes with a continuation value
abbrev HasDoorNote : List Note → Note → Type 0
HasDoorNote notes (Opened o) = (v : Text) × (x : ℕ) × HasNote notes (Door o.grant v x)
HasDoorNote notes _ = Unit {0}

tokens_doored : (notes : List Note) (supply : Supply) (o : OpeningNote) (asks : List Ask) (k : ℕ)
    → EachNote (HasDoorNote notes) (map Issued (tokens_for supply o asks k))
tokens_doored notes supply o [] k = tt
tokens_doored notes supply o (ask ∷ asks) k = (tt, tokens_doored notes supply o asks (k + 2))

retire_doored : (notes : List Note) (ts : List TokenNote) (rest : List Note) → EachNote (HasDoorNote notes) rest
    → EachNote (HasDoorNote notes) (retire ts ++ rest)
retire_doored notes [] rest h = h
retire_doored notes (t ∷ ts) rest h = (tt, retire_doored notes ts rest h)

grant_doored : (supply : Supply) (o : OpeningNote) (before : List Note) (asks : List Ask) (notes : List Note) → EachNote (HasDoorNote notes) before
    → EachNote (HasDoorNote notes) ((before ++ map Issued (tokens_for supply o asks 0)) ++ door_note supply o (2 * length asks) ∷ [])
grant_doored supply o before asks notes h =
    each-append (HasDoorNote notes) (before ++ map Issued (tokens_for supply o asks 0)) (door_note supply o (2 * length asks) ∷ [])
    (each-append (HasDoorNote notes) before (map Issued (tokens_for supply o asks 0)) h (tokens_doored notes supply o asks 0)) (tt, tt)

action_doored : (supply : Supply) (action : Action) → EachNote (HasDoorNote (outcome_of supply action).notes) (outcome_of supply action).notes
action_doored supply (TakeDecision r rights request) = (tt, tt)
action_doored supply (OpenAtOnce o request) =
    grant_doored supply o (Opened o ∷ Terms (terms_for o request) ∷ Approved o.grant [] ∷ []) request.asks (outcome_of supply (OpenAtOnce o request)).notes (
      (
        _,
        _,
        note-append_right ((Opened o ∷ Terms (terms_for o request) ∷ Approved o.grant [] ∷ []) ++ map Issued (tokens_for supply o request.asks 0))
            (door_note supply o (2 * length request.asks) ∷ []) (door_note supply o (2 * length request.asks)) (inl refl),
      ),
      (tt, (tt, tt)),
    )
action_doored supply (OpenAsking o request modes) = ((_, _, inr (inr (inl refl))), (tt, (tt, (tt, tt))))
action_doored supply (RenewDoor o) = (tt, tt)
action_doored supply (CollectDecision o w d asks) = grant_doored supply o (Approved o.grant d.rights ∷ []) asks
    (outcome_of supply (CollectDecision o w d asks)).notes (tt, tt)
action_doored supply (WrongReference o) = (tt, tt)
action_doored supply (LastWrongReference o) = (tt, (tt, tt))
action_doored supply (RefuseAndFinalize o code) = (tt, tt)
action_doored supply (ModifyAtOnce o consent retired request) =
    grant_doored supply o (retire retired ++ Terms (terms_for o request) ∷ Approved o.grant consent ∷ []) request.asks
    (outcome_of supply (ModifyAtOnce o consent retired request)).notes
    (retire_doored _ retired (Terms (terms_for o request) ∷ Approved o.grant consent ∷ []) (tt, (tt, tt)))
action_doored supply (ModifyAsking o retired request modes) =
    each-append (HasDoorNote (outcome_of supply (ModifyAsking o retired request modes)).notes) (retire retired ++ Terms (terms_for o request) ∷ [])
    (door_note supply o 0 ∷ Pended (round_for supply o modes) ∷ [])
    (retire_doored _ retired (Terms (terms_for o request) ∷ []) (tt, tt)) (tt, (tt, tt))
action_doored supply (CancelGrant o) = (tt, tt)
action_doored supply (RotateToken o t key) = (tt, (tt, tt))
action_doored supply (RevokeToken t false) = (tt, tt)
action_doored supply _ = tt

abbrev HasDoor : ℕ → List Note → Type 0
HasDoor g ns = (v : Text) × (first_of (door_in g) ns ≡ Some v)

door_found : (g : ℕ) (v : Text) (x : ℕ) (ns : List Note) → HasNote ns (Door g v x) → HasDoor g ns
door_found g v x [] h = absurd h
door_found g v x (n ∷ ns) (inl e) =
    let self : (g == g) ≡ true = (Decides-eqb g g).1 refl in
    let here : door_in g (Door g v x) ≡ Some v = rw self refl in
    let there : door_in g n ≡ Some v = ap (door_in g) (sym e) ∙ here in (v, rw there refl)
door_found g v x (n ∷ ns) (inr h) = at (door_in g n) (door_found g v x ns h)
  where
    at : (o : Option Text) → HasDoor g ns → (w : Text) × (option_or o (first_of (door_in g) ns) ≡ Some w)
    at None rest = rest
    at (Some w) rest = (w, refl)

door_more : (g : ℕ) (xs ys : List Note) → HasDoor g ys → HasDoor g (xs ++ ys)
door_more g xs ys h = at (first_of (door_in g) xs) (first_of-append (door_in g) xs ys)
  where
    at : (o : Option Text) → first_of (door_in g) (xs ++ ys) ≡ option_or o (first_of (door_in g) ys) → HasDoor g (xs ++ ys)
    at None e = (h.0, e ∙ h.1)
    at (Some w) e = (w, e)

unreversed : (xs : List Note) (n : Note) → HasNote (reverse xs) n → HasNote xs n
unreversed xs n h = subst (λ (ns : List Note). HasNote ns n) (reverse-reverse xs) (note-reverse (reverse xs) n h)

pub past_doors : (rules : Setup) (past : List Event) → IsLegalPast rules past → HaveDoors (trail_of past)
past_doors rules [] legal = λ o h. absurd h
past_doors rules (e ∷ past) legal = λ o h. at o (past_doors rules past legal.1) (note_cases (reverse e.notes) (trail_of past) (Opened o) h)
  where
    new : EachNote (HasDoorNote e.notes) e.notes
    new = subst (λ (ns : List Note). EachNote (HasDoorNote ns) ns) (sym legal.0.notes)
        (action_doored (supply_at past e.moment e.draw) (action_of rules (supply_at past e.moment e.draw) (trail_of past) e.call))

    at : (o : OpeningNote) → HaveDoors (trail_of past) → HasNote (reverse e.notes) (Opened o) ⊎ HasNote (trail_of past) (Opened o)
        → HasDoor o.grant (reverse e.notes ++ trail_of past)
    at o old (inl h) =
        let d = each_of (HasDoorNote e.notes) e.notes (Opened o) new (unreversed e.notes (Opened o) h) in
        door_found o.grant d.0 d.1 (reverse e.notes ++ trail_of past)
        (note-append_left (reverse e.notes) (trail_of past) (Door o.grant d.0 d.1) (note-reverse e.notes (Door o.grant d.0 d.1) d.2))
    at o old (inr h) = door_more o.grant (reverse e.notes) (trail_of past) (old o h)

-- ---- all of it

pub past_grants : (rules : Setup) (past : List Event) → IsLegalPast rules past → HaveGrants (trail_of past)
past_grants rules past legal t h = let o = issued_opened (trail_of past) t (past_origins rules past legal) h in rw o.1 refl

pub past_whole : (rules : Setup) (past : List Event) → IsLegalPast rules past → IsWhole (trail_of past)
past_whole rules past legal = record {
  once = past_once rules past legal;
  grants = past_grants rules past legal;
  doors = past_doors rules past legal;
  terms = λ o h. opened_terms (trail_of past) o (past_origins rules past legal) h;
}

-- An entry changes the tables as its notes say.
pub entry_changes : (rules : Setup) (past : List Event) (e : Event) → IsLegalPast rules past → IsNext rules past e
    → tables_of (trail_of (e ∷ past)) (now_at past e.moment) ≡ after_notes e.notes (tables_of (trail_of past) (now_at past e.moment))
entry_changes rules past e legal next = tables_after e.notes (trail_of past) (now_at past e.moment) (entry_follows rules past e legal next)
