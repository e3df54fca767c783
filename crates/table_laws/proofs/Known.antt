-- In a legal history every note speaks of a grant that was opened before, and every opened grant has a continuation value.
use Rattle.std.proofs.Common.{ℕ, ◌≡◌, ◌<◌, ◌≤◌, ◌+◌, ◌*◌, Bool, false, List, [], ◌∷◌, ◌++◌, length, map, reverse, refl, sym, ◌∙◌, subst, inl, arith, cond, Option, Some, None}
use Rattle.std.specs.Prelude.{◌==◌, if◌then◌else◌, option_map}
use Rattle.std.specs.List.{list_any}
use Rattle.std.proofs.lemmas.Bool.{or_from}
use Rattle.std.proofs.lemmas.Bool.Decides.{nat_tests}
use Rattle.std.proofs.lemmas.List.Sums.{sum_by-append}
use Rattle.gnap_model.specs.Common.{Text, first_of, same_text}
use Rattle.gnap_model.specs.declared.objects.Ask.{Ask}
use Rattle.gnap_model.specs.declared.objects.Modes.{Modes}
use Rattle.gnap_model.specs.declared.objects.Setup.{Setup}
use Rattle.gnap_model.specs.declared.calls.Call.{Call}
use Rattle.gnap_model.specs.declared.notes.OpeningNote.{OpeningNote}
use Rattle.gnap_model.specs.declared.notes.RoundNote.{RoundNote}
use Rattle.gnap_model.specs.declared.notes.TokenNote.{TokenNote}
use Rattle.gnap_model.specs.declared.notes.Note.{Note}
use Rattle.gnap_model.specs.declared.notes.Note.TheVariants.{Opened, Terms, Approved, Issued, Door, Pended, DecidedAs, Finalized, Wrong, Retired}
use Rattle.gnap_model.specs.Notes.{Event, trail_of}
use Rattle.gnap_model.specs.Standing.{opening_in, terms_in, consent_in, door_in, earliest_in, is_end_of, state_change_in, next_grant, is_opening, round_by_handle}
use Rattle.gnap_model.specs.Actions.{Action, Supply, outcome_of, grant_outcome, pending_outcome, tokens_for, door_note, terms_for, instance_of, retire, round_for}
use Rattle.gnap_model.specs.Actions.Action.{OpenAtOnce, OpenAsking, TakeDecision, RenewDoor, CollectDecision, WrongReference, LastWrongReference, RefuseAndFinalize, ModifyAtOnce, ModifyAsking, CancelGrant, RotateToken, RevokeToken}
use Rattle.gnap_model.specs.Answer.{supply_at, action_of}
use Rattle.gnap_model.specs.Legal.{IsLegalPast}
use Rattle.gnap_laws.proofs.Causes.{Cause, cause_of}
use Rattle.gnap_model.proofs.TrailNotes.{HasNote, EachNote, each-append, each-reverse, each_more, opening_noted, managed_issued}
use Rattle.gnap_laws.proofs.Sound.{IsSound, past_sound, names_known, old_known, new_known, sound_note}
use Rattle.table_laws.specs.AddableNotes.{IsNew}
use Rattle.gnap_tables.specs.Rows.{grant_rows}
use Rattle.gnap_tables.specs.RowSearches.{Interaction, interaction_by_handle}
use Rattle.table_laws.proofs.RoundBridges.{handle_is, found_row}
use Rattle.table_laws.proofs.MoreCauses.{MoreCause, more_cause}

-- the note speaks of a grant below g
abbrev pub KnownAt : ℕ → Note → Type 0
KnownAt g (Opened o) = o.grant < g
KnownAt g (Terms w) = w.grant < g
KnownAt g (Approved k c) = k < g
KnownAt g (Issued t) = t.grant < g
KnownAt g (Door k v x) = k < g
KnownAt g (Pended r) = r.grant < g
KnownAt g (DecidedAs d) = d.grant < g
KnownAt g (Finalized k) = k < g
KnownAt g (Wrong k) = k < g
KnownAt g (Retired s w) = Unit {0}

abbrev pub AreKnown : ℕ → List Note → Type 0
AreKnown g notes = EachNote (KnownAt g) notes

known_at_more : (g h : ℕ) (n : Note) → g ≤ h → KnownAt g n → KnownAt h n
known_at_more g h (Retired s w) le k = tt
known_at_more g h _ le k = omega arith

known_tokens : (g : ℕ) (supply : Supply) (o : OpeningNote) (asks : List Ask) (k : ℕ) → o.grant < g → AreKnown g (map Issued (tokens_for supply o asks k))
known_tokens g supply o [] k h = tt
known_tokens g supply o (ask ∷ asks) k h = (h, known_tokens g supply o asks (k + 2) h)

known_retired : (g : ℕ) (ts : List TokenNote) (rest : List Note) → AreKnown g rest → AreKnown g (retire ts ++ rest)
known_retired g [] rest h = h
known_retired g (t ∷ ts) rest h = (tt, known_retired g ts rest h)

grant_known : (g : ℕ) (supply : Supply) (o : OpeningNote) (before : List Note) (asks : List Ask) (single : Bool) (subject instance : Option Text) → o.grant < g
    → AreKnown g before
    → AreKnown g (grant_outcome supply o before asks single subject instance).notes
grant_known g supply o before asks single subject instance h b =
    each-append (KnownAt g) (before ++ map Issued (tokens_for supply o asks 0)) (door_note supply o (2 * length asks) ∷ [])
    (each-append (KnownAt g) before (map Issued (tokens_for supply o asks 0)) b (known_tokens g supply o asks 0 h)) (h, tt)

pend_known : (g : ℕ) (supply : Supply) (o : OpeningNote) (before : List Note) (modes : Modes) (instance : Option Text) → o.grant < g → AreKnown g before
    → AreKnown g (pending_outcome supply o before modes instance).notes
pend_known g supply o before modes instance h b = each-append (KnownAt g) before (door_note supply o 0 ∷ Pended (round_for supply o modes) ∷ []) b (h, (h, tt))

-- the grant of a live interaction was opened
pub interaction_known : (trail : List Note) (now : ℕ) (handle : Text) (r : RoundNote) → round_by_handle trail now handle ≡ Some r
    → (o : OpeningNote) × HasNote trail (Opened o) × (r.grant ≡ o.grant)
interaction_known trail now handle r e = at (interaction_by_handle now handle (grant_rows trail now)) refl (handle_is trail now handle ∙ e)
  where
    at : (x : Option Interaction) → interaction_by_handle now handle (grant_rows trail now) ≡ x → option_map (λ (i : Interaction). i.round) x ≡ Some r
        → (o : OpeningNote) × HasNote trail (Opened o) × (r.grant ≡ o.grant)
    at None f h = cc h
    at (Some i) f h =
        let k = found_row (λ round. same_text round.handle handle) trail now i f in
        let same : i.round ≡ r = cc h in (k.opening, k.opened, subst (λ (x : RoundNote). x.grant ≡ k.opening.grant) same k.grant_is)

-- the notes of an action speak of known grants
action_known : (supply : Supply) (trail : List Note) (call : Call) (action : Action) (g : ℕ) → IsSound trail → Cause trail supply.now call action
    → MoreCause trail supply.now action
    → next_grant (reverse (outcome_of supply action).notes ++ trail) ≤ g → AreKnown g (outcome_of supply action).notes
action_known supply trail call (TakeDecision r rights request) g sound a m p =
    let k = interaction_known trail supply.now m.0 r m.1 in
    let low : k.0.grant < next_grant trail = sound_note (next_grant trail) _ trail (Opened k.0) sound k.1 in
    let same : r.grant ≡ k.0.grant = k.2 in
    let grows = sum_by-append (λ (n : Note). cond (is_opening n) 1 0) (reverse (outcome_of supply (TakeDecision r rights request)).notes) trail in
    (omega arith, tt)
action_known supply trail call (OpenAtOnce o request) g sound a m p =
    let k : o.grant < g = new_known (outcome_of supply (OpenAtOnce o request)).notes trail o a.2 (inl refl) g p in
    grant_known g supply o (Opened o ∷ Terms (terms_for o request) ∷ Approved o.grant [] ∷ []) request.asks request.single None (instance_of o) k
    (k, (k, (k, tt)))
action_known supply trail call (OpenAsking o request modes) g sound a m p =
    let k : o.grant < g = new_known (outcome_of supply (OpenAsking o request modes)).notes trail o a.2 (inl refl) g p in
    pend_known g supply o (Opened o ∷ Terms (terms_for o request) ∷ []) modes (instance_of o) k (k, (k, tt))
action_known supply trail call (RenewDoor o) g sound a m p =
    let k : o.grant < g = old_known (outcome_of supply (RenewDoor o)).notes trail o (names_known trail supply.now call o sound a) g p in (k, tt)
action_known supply trail call (CollectDecision o w d asks) g sound a m p =
    let k : o.grant < g = old_known (outcome_of supply (CollectDecision o w d asks)).notes trail o (names_known trail supply.now call o sound a.0) g p in
    grant_known g supply o (Approved o.grant d.rights ∷ []) asks w.single (if w.subject then d.subject else None) None k (k, tt)
action_known supply trail call (WrongReference o) g sound a m p =
    let k : o.grant < g = old_known (outcome_of supply (WrongReference o)).notes trail o (names_known trail supply.now call o sound a) g p in (k, tt)
action_known supply trail call (LastWrongReference o) g sound a m p =
    let k : o.grant < g = old_known (outcome_of supply (LastWrongReference o)).notes trail o (names_known trail supply.now call o sound a.0) g p in (k, (k, tt))
action_known supply trail call (RefuseAndFinalize o code) g sound a m p =
    let k : o.grant < g = old_known (outcome_of supply (RefuseAndFinalize o code)).notes trail o (names_known trail supply.now call o sound a.0) g p in (k, tt)
action_known supply trail call (ModifyAtOnce o consent retired request) g sound a m p =
    let k : o.grant < g = old_known (outcome_of supply (ModifyAtOnce o consent retired request)).notes trail o (names_known trail supply.now call o sound a.0) g
    p in
    grant_known g supply o (retire retired ++ Terms (terms_for o request) ∷ Approved o.grant consent ∷ []) request.asks request.single None None k
    (known_retired g retired (Terms (terms_for o request) ∷ Approved o.grant consent ∷ []) (k, (k, tt)))
action_known supply trail call (ModifyAsking o retired request modes) g sound a m p =
    let k : o.grant < g = old_known (outcome_of supply (ModifyAsking o retired request modes)).notes trail o (names_known trail supply.now call o sound a.0) g
    p in
    pend_known g supply o (retire retired ++ Terms (terms_for o request) ∷ []) modes None k (known_retired g retired (Terms (terms_for o request) ∷ []) (k, tt))
action_known supply trail call (CancelGrant o) g sound a m p =
    let k : o.grant < g = old_known (outcome_of supply (CancelGrant o)).notes trail o (names_known trail supply.now call o sound a.0) g p in (k, tt)
action_known supply trail call (RotateToken o u key) g sound a m p =
    let same : o.grant ≡ u.grant = (opening_noted trail u.grant o a.3).1 in
    let u_sound = sound_note (next_grant trail) _ trail (Issued u) sound (managed_issued trail supply.now a.1.0 u a.1.2).0 in
    let low : u.grant < next_grant trail = u_sound.1 in
    let grows = sum_by-append (λ (n : Note). cond (is_opening n) 1 0) (reverse (outcome_of supply (RotateToken o u key)).notes) trail in
    (tt, (omega arith, tt))
action_known supply trail call (RevokeToken u false) g sound a m p = (tt, tt)
action_known supply trail call _ g sound a m p = tt

pub past_known : (rules : Setup) (past : List Event) → IsLegalPast rules past → AreKnown (next_grant (trail_of past)) (trail_of past)
past_known rules [] legal = tt
past_known rules (e ∷ past) legal =
    let supply = supply_at past e.moment e.draw in
    let trail = trail_of past in
    let action = action_of rules supply trail e.call in
    let g = next_grant (reverse e.notes ++ trail) in
    let grows = sum_by-append (λ (n : Note). cond (is_opening n) 1 0) (reverse e.notes) trail in
    let more : next_grant trail ≤ g = omega arith in
    let grants : next_grant (reverse (outcome_of supply action).notes ++ trail)
    ≤ g = subst (λ (ns : List Note). next_grant (reverse ns ++ trail) ≤ g) legal.0.notes (omega arith) in
    each-append (KnownAt g) (reverse e.notes) trail
    (each-reverse (KnownAt g) e.notes (subst (AreKnown g) (sym legal.0.notes)
    (action_known supply trail e.call action g (past_sound rules past legal.1) (cause_of rules supply trail e.call) (more_cause rules supply trail e.call)
    grants)))
    (each_more (KnownAt (next_grant trail)) (KnownAt g) trail (λ n. known_at_more (next_grant trail) g n more) (past_known rules past legal.1))

-- ---- a number beyond all grants is new

pub below_not : (x g : ℕ) → x < g → (x == g) ≡ false
below_not x g h = grind (arith, nat_tests)

not_found : {B : Type 0} (look : Note → Option B) (g : ℕ) (ns : List Note) → ((n : Note) → KnownAt g n → look n ≡ None) → AreKnown g ns
    → first_of look ns ≡ None
not_found look g [] f h = refl
not_found look g (n ∷ ns) f h = rw (f n h.0) (not_found look g ns f h.1)

-- A note of grants below the number says nothing of it.
says_nothing : (g : ℕ) (n : Note) → KnownAt g n
    → (opening_in g n ≡ None) × (is_end_of g n ≡ false) × (terms_in g n ≡ None) × (consent_in g n ≡ None) × (door_in g n ≡ None) × (earliest_in g n ≡ None)
    × (state_change_in g n ≡ None)
says_nothing g (Opened o) low = let b : (o.grant == g) ≡ false = below_not o.grant g low in (rw b refl, refl, refl, refl, refl, refl, refl)
says_nothing g (Terms w) low = let b : (w.grant == g) ≡ false = below_not w.grant g low in (refl, refl, rw b refl, refl, refl, refl, refl)
says_nothing g (Approved k c) low = let b : (k == g) ≡ false = below_not k g low in (refl, refl, refl, rw b refl, refl, refl, rw b refl)
says_nothing g (Door k v x) low = let b : (k == g) ≡ false = below_not k g low in (refl, refl, refl, refl, rw b refl, rw b refl, refl)
says_nothing g (Pended r) low = let b : (r.grant == g) ≡ false = below_not r.grant g low in (refl, refl, refl, refl, refl, refl, rw b refl)
says_nothing g (Finalized k) low = let b : (k == g) ≡ false = below_not k g low in (refl, rw b refl, refl, refl, refl, refl, refl)
says_nothing g _ low = (refl, refl, refl, refl, refl, refl, refl)

not_ended : (g : ℕ) (ns : List Note) → AreKnown g ns → list_any (is_end_of g) ns ≡ false
not_ended g [] h = refl
not_ended g (n ∷ ns) h = or_from (is_end_of g n) (list_any (is_end_of g) ns) (says_nothing g n h.0).1 (not_ended g ns h.1)

pub is_new : (g : ℕ) (ns : List Note) → AreKnown g ns → IsNew ns g
is_new g ns h = record {
  opening = not_found (opening_in g) g ns (λ n low. (says_nothing g n low).0) h;
  unended = not_ended g ns h;
  terms = not_found (terms_in g) g ns (λ n low. (says_nothing g n low).2) h;
  consent = not_found (consent_in g) g ns (λ n low. (says_nothing g n low).3) h;
  door = not_found (door_in g) g ns (λ n low. (says_nothing g n low).4) h;
  earliest = not_found (earliest_in g) g ns (λ n low. (says_nothing g n low).5) h;
  change = not_found (state_change_in g) g ns (λ n low. (says_nothing g n low).6) h;
}
