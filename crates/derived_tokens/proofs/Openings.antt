-- Each number of a grant is that of one opening, which has the end that was asked for.
use Rattle.std.proofs.Common.{◌≡◌, ◌∙◌, ◌⊎◌, inl, inr, ℕ, ◌<◌, ◌≤◌, Bool, true, false, List, [], ◌∷◌, ◌++◌, map, reverse, refl, sym, ap, subst, arith, Option, Some, None}
use Rattle.std.specs.Prelude.{◌||◌, ◌==◌, ◌*◌, nat_le, length, min, if◌then◌else◌}
use Rattle.gnap_model.specs.Common.{Text}
use Rattle.gnap_model.specs.Limits.{live_limit}
use Rattle.gnap_laws.specs.Types.{Setup, Ask, Modes, GrantRequest, Call, OpeningNote, TokenNote, Note}
use Rattle.gnap_model.specs.Notes.{Event, trail_of}
use Rattle.gnap_model.specs.declared.notes.Note.TheVariants.{Opened, Terms, Approved, Issued, Pended}
use Rattle.gnap_model.specs.Standing.{next_grant, live_grants, live_tokens}
use Rattle.gnap_model.specs.Judging.{Settled, settle}
use Rattle.gnap_model.specs.Judging.Settled.{AtOnce, ByAsking, Never}
use Rattle.gnap_model.specs.Begin.{pass_limit, is_past, end_of, opening, begin_by, ask_user, begin}
use Rattle.gnap_model.specs.Actions.{Action, Supply, outcome_of, grant_outcome, pending_outcome, tokens_for, door_note, terms_for, instance_of, retire, round_for}
use Rattle.gnap_model.specs.Actions.Action.{Refuse, OpenAtOnce, OpenAsking, TakeDecision, RenewDoor, CollectDecision, WrongReference, LastWrongReference, RefuseAndFinalize, ModifyAtOnce, ModifyAsking, CancelGrant, RotateToken, RevokeToken}
use Rattle.gnap_model.specs.declared.objects.ErrorCode.TheVariants.{RequestDenied}
use Rattle.gnap_model.specs.Answer.{supply_at}
use Rattle.gnap_model.specs.Legal.{IsLegalPast}
use Rattle.gnap_model.proofs.TrailNotes.{HasNote, EachNote, each-append, each-reverse, each_of}
use Rattle.gnap_laws.proofs.Causes.{chosen, Chosen, Cause, if_both}
use Rattle.gnap_laws.proofs.Came.{note_cases}
use Rattle.gnap_laws.proofs.Sound.{IsSound, past_sound, sound_note}

-- the grant that an action opens
abbrev pub Opens : Action → OpeningNote → Type 0
Opens (OpenAtOnce o request) p = p ≡ o
Opens (OpenAsking o request modes) p = p ≡ o
Opens _ p = ⊥

-- an opening that an action notes is that of the grant which it opens
abbrev IsOpenedBy : Action → Note → Type 0
IsOpenedBy action (Opened p) = Opens action p
IsOpenedBy action _ = Unit {0}

-- ---- the notes of an action

module _ (P : Note → Type 0) (issued : (t : TokenNote) → P (Issued t)) (doors : (supply : Supply) (o : OpeningNote) (k : ℕ) → P (door_note supply o k)) where
  each_issued : (ts : List TokenNote) → EachNote P (map Issued ts)
  each_issued [] = tt
  each_issued (t ∷ ts) = (issued t, each_issued ts)

  granted : (supply : Supply) (o : OpeningNote) (before : List Note) (asks : List Ask) (single : Bool) (subject instance : Option Text) → EachNote P before
      → EachNote P (grant_outcome supply o before asks single subject instance).notes
  granted supply o before asks single subject instance h =
      each-append P (before ++ map Issued (tokens_for supply o asks 0)) (door_note supply o (2 * length asks) ∷ [])
      (each-append P before (map Issued (tokens_for supply o asks 0)) h (each_issued (tokens_for supply o asks 0))) (doors supply o (2 * length asks), tt)

retired : (action : Action) (ts : List TokenNote) (rest : List Note) → EachNote (IsOpenedBy action) rest → EachNote (IsOpenedBy action) (retire ts ++ rest)
retired action [] rest h = h
retired action (t ∷ ts) rest h = (tt, retired action ts rest h)

noted : (supply : Supply) (action : Action) → EachNote (IsOpenedBy action) (outcome_of supply action).notes
noted supply (OpenAtOnce o request) = granted (IsOpenedBy (OpenAtOnce o request)) (λ t. tt) (λ s p k. tt) supply o
    (Opened o ∷ Terms (terms_for o request) ∷ Approved o.grant [] ∷ []) request.asks request.single None (instance_of o) (refl, (tt, (tt, tt)))
noted supply (OpenAsking o request modes) = (refl, (tt, (tt, (tt, tt))))
noted supply (TakeDecision r rights request) = (tt, tt)
noted supply (RenewDoor o) = (tt, tt)
noted supply (CollectDecision o w d asks) = granted (IsOpenedBy (CollectDecision o w d asks)) (λ t. tt) (λ s p k. tt) supply o
    (Approved o.grant d.rights ∷ []) asks w.single (if w.subject then d.subject else None) None (tt, tt)
noted supply (WrongReference o) = (tt, tt)
noted supply (LastWrongReference o) = (tt, (tt, tt))
noted supply (RefuseAndFinalize o code) = (tt, tt)
noted supply (ModifyAtOnce o consent ts request) = granted (IsOpenedBy (ModifyAtOnce o consent ts request)) (λ t. tt) (λ s p k. tt) supply o
    (retire ts ++ Terms (terms_for o request) ∷ Approved o.grant consent ∷ []) request.asks request.single None None
    (retired (ModifyAtOnce o consent ts request) ts (Terms (terms_for o request) ∷ Approved o.grant consent ∷ []) (tt, (tt, tt)))
noted supply (ModifyAsking o ts request modes) =
    each-append (IsOpenedBy (ModifyAsking o ts request modes)) (retire ts ++ Terms (terms_for o request) ∷ [])
    (door_note supply o 0 ∷ Pended (round_for supply o modes) ∷ [])
    (retired (ModifyAsking o ts request modes) ts (Terms (terms_for o request) ∷ []) (tt, tt)) (tt, (tt, tt))
noted supply (CancelGrant o) = (tt, tt)
noted supply (RotateToken o t key) = (tt, (tt, tt))
noted supply (RevokeToken t false) = (tt, tt)
noted supply (RevokeToken t true) = tt
noted supply _ = tt

pub opened_by : (supply : Supply) (action : Action) (p : OpeningNote) → HasNote (outcome_of supply action).notes (Opened p) → Opens action p
opened_by supply action p has = each_of (IsOpenedBy action) (outcome_of supply action).notes (Opened p) (noted supply action) has

-- a new grant has the next number
opens_next : (trail : List Note) (now : ℕ) (call : Call) (action : Action) (p : OpeningNote) → Cause trail now call action → Opens action p
    → p.grant ≡ next_grant trail
opens_next trail now call (OpenAtOnce o request) p why is = ap (λ (x : OpeningNote). x.grant) is ∙ why.2
opens_next trail now call (OpenAsking o request modes) p why is = ap (λ (x : OpeningNote). x.grant) is ∙ why.2
opens_next trail now call _ p why is = absurd is

one_opens : (action : Action) (p q : OpeningNote) → Opens action p → Opens action q → p ≡ q
one_opens (OpenAtOnce o request) p q is other = is ∙ sym other
one_opens (OpenAsking o request modes) p q is other = is ∙ sym other
one_opens _ p q is other = absurd is

-- ---- over a history

abbrev pub AreOpenedOnce : List Note → Type 0
AreOpenedOnce trail = (p q : OpeningNote) → HasNote trail (Opened p) → HasNote trail (Opened q) → p.grant ≡ q.grant → p ≡ q

pub opened_once : (rules : Setup) (past : List Event) → IsLegalPast rules past → AreOpenedOnce (trail_of past)
opened_once rules [] legal p q hp hq same = absurd hp
opened_once rules (e ∷ past) legal p q hp hq same =
    elim (note_cases (reverse e.notes) trail (Opened p) hp) [
      | inl newp ↦ elim (note_cases (reverse e.notes) trail (Opened q) hq) [
        | inl newq ↦ one_opens why.action p q (of_new p newp) (of_new q newq)
        | inr oldq ↦ let next = next_of p newp in let below = known q oldq in absurd (omega (arith, next, below, same))
      ]
      | inr oldp ↦ elim (note_cases (reverse e.notes) trail (Opened q) hq) [
        | inl newq ↦ let next = next_of q newq in let below = known p oldp in absurd (omega (arith, next, below, same))
        | inr oldq ↦ opened_once rules past legal.1 p q oldp oldq same
      ]
    ]
  where
    trail : List Note
    trail = trail_of past

    why : Chosen past e
    why = chosen rules past e legal.0

    of_new : (o : OpeningNote) → HasNote (reverse e.notes) (Opened o) → Opens why.action o
    of_new o has = each_of (IsOpenedBy why.action) (reverse e.notes) (Opened o)
        (each-reverse (IsOpenedBy why.action) e.notes
        (subst (EachNote (IsOpenedBy why.action)) (sym why.notes) (noted (supply_at past e.moment e.draw) why.action))) has

    next_of : (o : OpeningNote) → HasNote (reverse e.notes) (Opened o) → o.grant ≡ next_grant trail
    next_of o has = opens_next trail (supply_at past e.moment e.draw).now e.call why.action o why.cause (of_new o has)

    known : (o : OpeningNote) → HasNote trail (Opened o) → o.grant < next_grant trail
    known o has = sound_note (next_grant trail) _ trail (Opened o) (past_sound rules past legal.1) has

-- ---- the end that was asked for

abbrev EndsBy : ℕ → Action → Type 0
EndsBy end action = (p : OpeningNote) → Opens action p → p.end ≤ end

asking_ends : (end : ℕ) (o : OpeningNote) (request : GrantRequest) (modes : Option Modes) → o.end ≤ end → EndsBy end (ask_user (OpenAsking o request) modes)
asking_ends end o request None few = λ p is. absurd is
asking_ends end o request (Some modes) few = λ p is. subst (λ (x : OpeningNote). x.end ≤ end) (sym is) few

begin_by_ends : (s : Settled) (trail : List Note) (now end : ℕ) (o : OpeningNote) (request : GrantRequest) → o.end ≤ end
    → EndsBy end (begin_by s trail now o request)
begin_by_ends Never trail now end o request few = λ p is. absurd is
begin_by_ends AtOnce trail now end o request few = if_both (EndsBy end) (pass_limit (live_tokens trail now) (length request.asks)) (Refuse RequestDenied)
    (OpenAtOnce o request)
    (λ p is. absurd is) (λ p is. subst (λ (x : OpeningNote). x.end ≤ end) (sym is) few)
begin_by_ends ByAsking trail now end o request few = asking_ends end o request request.modes few

pub begin_ends : (rules : Setup) (trail : List Note) (now : ℕ) (key : Text) (request : GrantRequest) (end : ℕ) (p : OpeningNote)
    → Opens (begin rules trail now key request (Some end)) p → p.end ≤ end
begin_ends rules trail now key request end = if_both (EndsBy end) (is_past now (Some end) || nat_le live_limit (live_grants trail now)) (Refuse RequestDenied)
    (begin_by (settle rules key [] request) trail now (opening trail now key request (Some end)) request)
    (λ p is. absurd is) (begin_by_ends (settle rules key [] request) trail now end (opening trail now key request (Some end)) request (omega arith))
