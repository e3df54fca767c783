-- An entry draws at most 17 values, so a history of at most 2 ^ 58 entries draws fewer than 2 ^ 64.
use Rattle.std.proofs.Common.{ℕ, suc, ◌≡◌, ◌≤◌, ◌*◌, ◌^◌, Bool, true, false, List, [], ◌∷◌, ◌++◌, length, map, reverse, refl, sym, ap, subst, arith, length-append, Option, Some, None}
use Rattle.std.specs.Option.{option_to_list}
use Rattle.std.specs.Prelude.{is_some, if◌then◌else◌}
use Rattle.std.specs.List.{flat_map, filter_map, cons_option}
use Rattle.std.proofs.lemmas.List.{length-reverse}
use Rattle.gnap_model.specs.Common.{Text, AreDistinct, some_if}
use Rattle.gnap_laws.specs.Types.{Right, Setup, Ask, Modes, GrantRequest, Call, OpeningNote, TermsNote, TokenNote, Note}
use Rattle.gnap_model.specs.Notes.{Event, note_values, trail_values, trail_of}
use Rattle.gnap_model.specs.declared.notes.Note.TheVariants.{Opened, Terms, Approved, Issued, Pended}
use Rattle.gnap_model.specs.Standing.{terms_of}
use Rattle.gnap_model.specs.Actions.{Action, Supply, outcome_of, drawn_value, grant_outcome, pending_outcome, tokens_for, door_note, terms_for, instance_of, retire, round_for}
use Rattle.gnap_model.specs.Actions.Action.{OpenAtOnce, OpenAsking, TakeDecision, RenewDoor, CollectDecision, WrongReference, LastWrongReference, RefuseAndFinalize, ModifyAtOnce, ModifyAsking, CancelGrant, RotateToken, RevokeToken}
use Rattle.gnap_model.specs.Continue.{decided_ask}
use Rattle.gnap_model.specs.Answer.{supply_at}
use Rattle.gnap_model.specs.Legal.{HasFewAsks, IsLegalPast}
use Rattle.gnap_laws.specs.Provenance.{drawn_by}
use Rattle.gnap_laws.proofs.Causes.{chosen, Cause, IsBegin, IsModify}
use Rattle.gnap_laws.proofs.Serials.{grant_values, pend_values, tokens_length, retired_none, trail-onto, past_draws, draws_distinct}
use Rattle.gnap_laws.proofs.Once.{IsShort}
use Rattle.gnap_model.proofs.TrailNotes.{EachNote, each-append, each-reverse, each_of, terms_noted}

-- terms have at most 8 asks
abbrev pub TermsFit : Note → Type 0
TermsFit (Terms w) = length w.asks ≤ 8
TermsFit _ = Unit {0}

abbrev pub AllTermsFit : List Note → Type 0
AllTermsFit notes = EachNote TermsFit notes

fit-issued : (ts : List TokenNote) → AllTermsFit (map Issued ts)
fit-issued [] = tt
fit-issued (t ∷ ts) = (tt, fit-issued ts)

fit-retire : (ts : List TokenNote) (rest : List Note) → AllTermsFit rest → AllTermsFit (retire ts ++ rest)
fit-retire [] rest h = h
fit-retire (t ∷ ts) rest h = (tt, fit-retire ts rest h)

terms_of_fits : (g : ℕ) (w : TermsNote) (ns : List Note) → terms_of ns g ≡ Some w → AllTermsFit ns → length w.asks ≤ 8
terms_of_fits g w ns e h = each_of TermsFit ns (Terms w) h (terms_noted ns g w e).0

decided_fewer : (rights : List Right) (asks : List Ask) → length (filter_map (decided_ask rights) asks) ≤ length asks
decided_fewer rights [] = omega arith
decided_fewer rights (ask ∷ asks) = step (decided_ask rights ask) (filter_map (decided_ask rights) asks) (length asks) (decided_fewer rights asks)
  where
    step : (x : Option Ask) (xs : List Ask) (n : ℕ) → length xs ≤ n → length (cons_option x xs) ≤ suc n
    step None xs n h = omega arith
    step (Some x) xs n h = omega arith

-- ---- one entry

grant_few : (supply : Supply) (o : OpeningNote) (before : List Note) (asks : List Ask) (single : Bool) (subject instance : Option Text)
    → flat_map note_values before ≡ [] → length asks ≤ 8
    → length (flat_map note_values (grant_outcome supply o before asks single subject instance).notes) ≤ 17
grant_few supply o before asks single subject instance none few =
    let e = ap (length {A = Text}) (grant_values supply o before asks single subject instance none) in
    let l = length-append (flat_map note_values (map Issued (tokens_for supply o asks 0))) (drawn_value supply (2 * length asks) ∷ []) in
    let k = tokens_length supply o asks 0 in omega arith

listed_few : (b : Bool) (x : Text) → length (option_to_list (some_if b x)) ≤ 1
listed_few true x = omega arith
listed_few false x = omega arith

pend_few : (supply : Supply) (o : OpeningNote) (before : List Note) (modes : Modes) (instance : Option Text) → flat_map note_values before ≡ []
    → length (flat_map note_values (pending_outcome supply o before modes instance).notes) ≤ 17
pend_few supply o before modes instance none =
    let e = ap (length {A = Text}) (pend_values supply o before modes instance none) in
    let l = listed_few (is_some modes.finish) (drawn_value supply 2) in omega arith

grant_fits : (supply : Supply) (o : OpeningNote) (before : List Note) (asks : List Ask) (single : Bool) (subject instance : Option Text) → AllTermsFit before
    → AllTermsFit (grant_outcome supply o before asks single subject instance).notes
grant_fits supply o before asks single subject instance h =
    each-append TermsFit (before ++ map Issued (tokens_for supply o asks 0)) (door_note supply o (2 * length asks) ∷ [])
    (each-append TermsFit before (map Issued (tokens_for supply o asks 0)) h (fit-issued (tokens_for supply o asks 0))) (tt, tt)

pend_fits : (supply : Supply) (o : OpeningNote) (before : List Note) (modes : Modes) (instance : Option Text) → AllTermsFit before
    → AllTermsFit (pending_outcome supply o before modes instance).notes
pend_fits supply o before modes instance h = each-append TermsFit before (door_note supply o 0 ∷ Pended (round_for supply o modes) ∷ []) h (tt, (tt, tt))

-- few values, and terms that fit
abbrev pub IsSmall : List Note → Type 0
IsSmall notes = (length (flat_map note_values notes) ≤ 17) × AllTermsFit notes

begin_few : (call : Call) (request : GrantRequest) → IsBegin call request → HasFewAsks call → length request.asks ≤ 8
begin_few call request is h = subst HasFewAsks is.2 h

modify_few : (call : Call) (request : GrantRequest) → IsModify call request → HasFewAsks call → length request.asks ≤ 8
modify_few call request is h = subst HasFewAsks is.2 h

settle_few : (supply : Supply) (b : Bool) → length (option_to_list (some_if b (drawn_value supply 0)) ++ []) ≤ 17
settle_few supply true = omega arith
settle_few supply false = omega arith

action_small : (supply : Supply) (trail : List Note) (call : Call) (action : Action) → Cause trail supply.now call action → HasFewAsks call → AllTermsFit trail
    → IsSmall (outcome_of supply action).notes
action_small supply trail call (OpenAtOnce o request) a f h = (
  grant_few supply o (Opened o ∷ Terms (terms_for o request) ∷ Approved o.grant [] ∷ []) request.asks request.single None (instance_of o) refl
      (begin_few call request a.1 f),
  grant_fits supply o (Opened o ∷ Terms (terms_for o request) ∷ Approved o.grant [] ∷ []) request.asks request.single None (instance_of o)
      (tt, (begin_few call request a.1 f, (tt, tt))),
)
action_small supply trail call (OpenAsking o request modes) a f h = (
  pend_few supply o (Opened o ∷ Terms (terms_for o request) ∷ []) modes (instance_of o) refl,
  pend_fits supply o (Opened o ∷ Terms (terms_for o request) ∷ []) modes (instance_of o) (tt, (begin_few call request a.1 f, tt)),
)
action_small supply trail call (TakeDecision r rights request) a f h = (settle_few supply (is_some r.modes.finish), (tt, tt))
action_small supply trail call (RenewDoor o) a f h = (omega arith, (tt, tt))
action_small supply trail call (CollectDecision o w d asks) a f h =
    let few : length asks ≤ 8 = (let k = terms_of_fits o.grant w trail a.2 h in let l = decided_fewer d.rights w.asks in let e = ap (length {A = Ask}) a.3 in
    omega arith) in (
      grant_few supply o (Approved o.grant d.rights ∷ []) asks w.single (if w.subject then d.subject else None) None refl few,
      grant_fits supply o (Approved o.grant d.rights ∷ []) asks w.single (if w.subject then d.subject else None) None (tt, tt),
    )
action_small supply trail call (WrongReference o) a f h = (omega arith, (tt, tt))
action_small supply trail call (LastWrongReference o) a f h = (omega arith, (tt, (tt, tt)))
action_small supply trail call (RefuseAndFinalize o code) a f h = (omega arith, (tt, tt))
action_small supply trail call (ModifyAtOnce o consent retired request) a f h = (
  grant_few supply o (retire retired ++ Terms (terms_for o request) ∷ Approved o.grant consent ∷ []) request.asks request.single None None
      (retired_none retired (Terms (terms_for o request) ∷ Approved o.grant consent ∷ [])) (modify_few call request a.1 f),
  grant_fits supply o (retire retired ++ Terms (terms_for o request) ∷ Approved o.grant consent ∷ []) request.asks request.single None None
      (fit-retire retired (Terms (terms_for o request) ∷ Approved o.grant consent ∷ []) (modify_few call request a.1 f, (tt, tt))),
)
action_small supply trail call (ModifyAsking o retired request modes) a f h = (
  pend_few supply o (retire retired ++ Terms (terms_for o request) ∷ []) modes None (retired_none retired (Terms (terms_for o request) ∷ [])),
  pend_fits supply o (retire retired ++ Terms (terms_for o request) ∷ []) modes None
      (fit-retire retired (Terms (terms_for o request) ∷ []) (modify_few call request a.1 f, tt)),
)
action_small supply trail call (CancelGrant o) a f h = (omega arith, (tt, tt))
action_small supply trail call (RotateToken o t key) a f h = (omega arith, (tt, (tt, tt)))
action_small supply trail call (RevokeToken t false) a f h = (omega arith, (tt, tt))
action_small supply trail call _ a f h = (omega arith, tt)

-- ---- histories

pub past_fits : (rules : Setup) (past : List Event) → IsLegalPast rules past → AllTermsFit (trail_of past)
past_fits rules [] legal = tt
past_fits rules (e ∷ past) legal =
    let supply = supply_at past e.moment e.draw in
    let why = chosen rules past e legal.0 in
    let action = why.action in
    let small = action_small supply (trail_of past) e.call action why.cause legal.0.fits (past_fits rules past legal.1) in
    each-append TermsFit (reverse e.notes) (trail_of past) (each-reverse TermsFit e.notes (subst AllTermsFit (sym why.notes) small.1))
    (past_fits rules past legal.1)

pub few_values : (rules : Setup) (past : List Event) → IsLegalPast rules past → length (trail_values (trail_of past)) ≤ 17 * length past
few_values rules [] legal = omega arith
few_values rules (e ∷ past) legal =
    let supply = supply_at past e.moment e.draw in
    let why = chosen rules past e legal.0 in
    let action = why.action in
    let small = action_small supply (trail_of past) e.call action why.cause legal.0.fits (past_fits rules past legal.1) in
    let here : length (flat_map note_values e.notes) ≤ 17 = subst (λ (ns : List Note). length (flat_map note_values ns) ≤ 17) (sym why.notes) small.0 in
    let before = few_values rules past legal.1 in
    let whole = ap (length {A = Text}) (trail-onto e.notes (trail_of past)) in
    let parts = length-append (reverse (flat_map note_values e.notes)) (trail_values (trail_of past)) in
    let same = length-reverse (flat_map note_values e.notes) in omega arith

pub is_short : (rules : Setup) (past : List Event) → IsLegalPast rules past → length past ≤ 2 ^ 58 → IsShort past
is_short rules past legal h = let k = few_values rules past legal in omega arith

-- All values that replies draw differ.
pub draws_differ : (rules : Setup) (past : List Event) → IsLegalPast rules past → length past ≤ 2 ^ 58 → AreDistinct (drawn_by past)
draws_differ rules past legal h =
    draws_distinct rules past legal (let e = ap (length {A = Text}) (past_draws rules past legal) in let k = is_short rules past legal h in omega arith)
