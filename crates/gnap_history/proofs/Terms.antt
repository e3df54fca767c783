-- Calls that ask for few tokens leave notes that do.
use Rattle.std.proofs.Common.{◌≡◌, ◌≤◌, ◌<◌, ℕ, zero, suc, ◌*◌, Bool, List, [], ◌∷◌, ◌++◌, length, map, reverse, sym, subst, arith, get_or, Option, None}
use Rattle.std.specs.Prelude.{if◌then◌else◌}
use Rattle.gnap_model.specs.Common.{Text}
use Rattle.gnap_model.specs.Actions.{Action, Supply, outcome_of, tokens_for, door_note, round_for, terms_for, instance_of, retire, grant_outcome, pending_outcome}
use Rattle.gnap_model.specs.Actions.Action.{Refuse, ShowToken, ShowInactive, LapseAction, OpenAtOnce, OpenAsking, ShowRound, ShowHandle, TakeDecision, RenewDoor, CollectDecision, WrongReference, LastWrongReference, RefuseAndFinalize, ModifyAtOnce, ModifyAsking, CancelGrant, RotateToken, RevokeToken}
use Rattle.gnap_model.specs.Answer.{gnap_answer, supply_of, action_of}
use Rattle.gnap_model.specs.Legal.{HasFewAsks}
use Rattle.gnap_model.specs.declared.calls.Call.{Call}
use Rattle.gnap_model.specs.declared.objects.Ask.{Ask}
use Rattle.gnap_model.specs.declared.objects.Modes.{Modes}
use Rattle.gnap_model.specs.declared.objects.Setup.{Setup}
use Rattle.gnap_model.specs.declared.objects.GrantRequest.{GrantRequest}
use Rattle.gnap_model.specs.declared.notes.Note.{Note}
use Rattle.gnap_model.specs.declared.notes.Note.TheVariants.{Opened, Terms, Approved, Issued, Pended}
use Rattle.gnap_model.specs.declared.notes.OpeningNote.{OpeningNote}
use Rattle.gnap_model.specs.declared.notes.TokenNote.{TokenNote}
use Rattle.gnap_laws.proofs.Causes.{Cause, cause_of, IsBegin, IsModify}
use Rattle.gnap_history.specs.Terms.{AsksForFew, AskForFew}
use Rattle.grant_machine.proofs.FoundFits.{all-append, if_both}

issued_few : (tokens : List TokenNote) → AskForFew (map Issued tokens)
issued_few [] = tt
issued_few (t ∷ tokens) = (tt, issued_few tokens)

retired_few : (tokens : List TokenNote) (rest : List Note) → AskForFew rest → AskForFew (retire tokens ++ rest)
retired_few [] rest few = few
retired_few (t ∷ tokens) rest few = (tt, retired_few tokens rest few)

grant_few : (supply : Supply) (o : OpeningNote) (before : List Note) (asks : List Ask) (single : Bool) (subject instance : Option Text)
    → AskForFew before → AskForFew (grant_outcome supply o before asks single subject instance).notes
grant_few supply o before asks single subject instance few =
    all-append AsksForFew (before ++ map Issued (tokens_for supply o asks 0)) (door_note supply o (2 * length asks) ∷ [])
    (all-append AsksForFew before (map Issued (tokens_for supply o asks 0)) few (issued_few (tokens_for supply o asks 0))) (tt, tt)

pending_few : (supply : Supply) (o : OpeningNote) (before : List Note) (modes : Modes) (instance : Option Text)
    → AskForFew before → AskForFew (pending_outcome supply o before modes instance).notes
pending_few supply o before modes instance few = all-append AsksForFew before (door_note supply o 0 ∷ Pended (round_for supply o modes) ∷ []) few (tt, (tt, tt))

asked_few : (call : Call) (request : GrantRequest) → IsBegin call request → HasFewAsks call → length request.asks ≤ 8
asked_few call request is few = subst HasFewAsks is.2 few

changed_few : (call : Call) (request : GrantRequest) → IsModify call request → HasFewAsks call → length request.asks ≤ 8
changed_few call request is few = subst HasFewAsks is.2 few

outcome_few : (supply : Supply) (trail : List Note) (call : Call) (action : Action) → Cause trail supply.now call action → HasFewAsks call
    → AskForFew (outcome_of supply action).notes
outcome_few supply trail call (OpenAtOnce o request) cause few =
    grant_few supply o (Opened o ∷ Terms (terms_for o request) ∷ Approved o.grant [] ∷ []) request.asks request.single None (instance_of o)
    (tt, (asked_few call request cause.1 few, (tt, tt)))
outcome_few supply trail call (OpenAsking o request modes) cause few =
    pending_few supply o (Opened o ∷ Terms (terms_for o request) ∷ []) modes (instance_of o) (tt, (asked_few call request cause.1 few, tt))
outcome_few supply trail call (TakeDecision round rights request) cause few = (tt, tt)
outcome_few supply trail call (RenewDoor o) cause few = (tt, tt)
outcome_few supply trail call (CollectDecision o terms decision asks) cause few =
    grant_few supply o (Approved o.grant decision.rights ∷ []) asks terms.single (if terms.subject then decision.subject else None) None (tt, tt)
outcome_few supply trail call (WrongReference o) cause few = (tt, tt)
outcome_few supply trail call (LastWrongReference o) cause few = (tt, (tt, tt))
outcome_few supply trail call (RefuseAndFinalize o code) cause few = (tt, tt)
outcome_few supply trail call (ModifyAtOnce o consent retired request) cause few =
    let after = Terms (terms_for o request) ∷ Approved o.grant consent ∷ [] in
    grant_few supply o (retire retired ++ after) request.asks request.single None None
    (retired_few retired after (changed_few call request cause.1 few, (tt, tt)))
outcome_few supply trail call (ModifyAsking o retired request modes) cause few =
    let after = Terms (terms_for o request) ∷ [] in
    pending_few supply o (retire retired ++ after) modes None (retired_few retired after (changed_few call request cause.1 few, tt))
outcome_few supply trail call (CancelGrant o) cause few = (tt, tt)
outcome_few supply trail call (RotateToken o token key) cause few = (tt, (tt, tt))
outcome_few supply trail call (RevokeToken token was_retired) cause few = if_both AskForFew was_retired [] _ tt (tt, tt)
outcome_few supply trail call _ cause few = tt

-- The notes of a call that asks for few tokens ask for few.
pub answer_few : (rules : Setup) (notes : List Note) (at : ℕ) (draw : List ℕ) (call : Call) → HasFewAsks call
    → AskForFew (gnap_answer rules notes at draw call).notes
answer_few rules notes at draw call few =
    let supply = supply_of (reverse notes) at draw in
    outcome_few supply (reverse notes) call (action_of rules supply (reverse notes) call) (cause_of rules supply (reverse notes) call) few

-- One of such notes.
pub few_at : (notes : List Note) (i : ℕ) (x : Note) → i < length notes → x ≡ get_or notes i x → AskForFew notes → AsksForFew x
few_at [] i x within is few = absurd (omega arith)
few_at (note ∷ notes) zero x within is few = subst AsksForFew (sym is) few.0
few_at (note ∷ notes) (suc i) x within is few = few_at notes i x (omega arith) is few.1

pub few_more : (notes more : List Note) → AskForFew notes → AskForFew more → AskForFew (notes ++ more)
few_more notes more few also = all-append AsksForFew notes more few also
