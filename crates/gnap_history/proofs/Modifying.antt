-- What is done on a modification, by how its request is settled.
use Rattle.std.proofs.Common.{◌≡◌, ◌∙◌, ℕ, Bool, true, false, List, [], ◌∷◌, ◌++◌, length, refl, ap, sym, subst, append_assoc, Option}
use Rattle.std.specs.Prelude.{Result, IfOk}
use Rattle.bytes_and_lists.specs.declared.memory.Mem.{Mem}
use Rattle.gnap_model.specs.Common.{Text}
use Rattle.gnap_model.specs.Actions.{Supply, grant_outcome}
use Rattle.gnap_model.specs.Actions.Action.{Refuse, ModifyAtOnce}
use Rattle.gnap_model.specs.Begin.{pass_limit}
use Rattle.gnap_model.specs.Change.{tokens_of, other_live_tokens, modify_by}
use Rattle.gnap_model.specs.Standing.{consent_of}
use Rattle.gnap_model.specs.Judging.{Settled, settle}
use Rattle.gnap_model.specs.Judging.Settled.{AtOnce}
use Rattle.gnap_model.specs.declared.objects.Ask.{Ask}
use Rattle.gnap_model.specs.declared.objects.GrantRequest.{GrantRequest}
use Rattle.gnap_model.specs.declared.objects.Setup.{Setup}
use Rattle.gnap_model.specs.declared.objects.ErrorCode.TheVariants.{RequestDenied}
use Rattle.gnap_model.specs.declared.notes.Note.{Note}
use Rattle.gnap_model.specs.declared.notes.OpeningNote.{OpeningNote}
use Rattle.gnap_history.specs.declared.drawing.NotedReply.{NotedReply}
use Rattle.gnap_history.specs.Drawings.{IsAnswer}

pub refused_past_limit : (trail : List Note) (now : ℕ) (o : OpeningNote) (request : GrantRequest)
    → pass_limit (other_live_tokens trail now o) (length request.asks) ≡ true
    → modify_by AtOnce trail now o request ≡ Refuse RequestDenied
refused_past_limit trail now o request passes = rw passes refl

pub modified_within_limit : (trail : List Note) (now : ℕ) (o : OpeningNote) (request : GrantRequest)
    → pass_limit (other_live_tokens trail now o) (length request.asks) ≡ false
    → modify_by AtOnce trail now o request ≡ ModifyAtOnce o (consent_of trail o.grant) (tokens_of trail now o) request
modified_within_limit trail now o request passes = rw passes refl

pub modified_as : (rules : Setup) (trail : List Note) (now : ℕ) (o : OpeningNote) (request : GrantRequest) (s : Settled)
    → s ≡ settle rules o.key (consent_of trail o.grant) request
    → modify_by (settle rules o.key (consent_of trail o.grant) request) trail now o request ≡ modify_by s trail now o request
modified_as rules trail now o request s is = ap (λ (t : Settled). modify_by t trail now o request) (sym is)

-- Two notes after some.
pub two_more : (retired before mid after : List Note) (x y terms approved : Note) → before ≡ retired → mid ≡ before ++ x ∷ [] → after ≡ mid ++ y ∷ []
    → x ≡ terms → y ≡ approved
    → after ≡ retired ++ terms ∷ approved ∷ []
two_more retired before mid after x y terms approved is one two first second =
    let mid_is : mid ≡ retired ++ terms ∷ [] = cc in
    let after_is : after ≡ (retired ++ terms ∷ []) ++ approved ∷ [] = cc in
    after_is ∙ append_assoc retired (terms ∷ []) (approved ∷ [])

-- What is granted after some notes is granted after the same.
pub granted_after : (supply : Supply) (o : OpeningNote) (before same : List Note) (asks likewise : List Ask) (single : Bool) (subject instance : Option Text)
    (result : Result NotedReply Mem)
    → before ≡ same → asks ≡ likewise → IfOk result (IsAnswer (grant_outcome supply o before asks single subject instance))
    → IfOk result (IsAnswer (grant_outcome supply o same likewise single subject instance))
granted_after supply o before same asks likewise single subject instance result is also granted =
    subst (λ (notes : List Note). IfOk result (IsAnswer (grant_outcome supply o notes likewise single subject instance))) is
    (subst (λ (xs : List Ask). IfOk result (IsAnswer (grant_outcome supply o before xs single subject instance))) also granted)
