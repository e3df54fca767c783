-- What is answered by one action is answered by another that is the same.
use Rattle.std.proofs.Common.{◌≡◌, ◌∙◌, ◌≤◌, ℕ, true, false, List, sym, subst, ap, arith, refl, Option, Some, None}
use Rattle.std.specs.Prelude.{Result, IfOk, if◌then◌else◌, is_some, is_none, nat_le, option_map}
use Rattle.std.proofs.lemmas.Bool.Decides.{nat_tests}
use Rattle.bytes_and_lists.specs.declared.memory.Mem.{Mem}
use Rattle.gnap_model.specs.Common.{Text, first_of}
use Rattle.gnap_model.specs.Actions.{Action, Supply, outcome_of, on_found, with_key, with_owner}
use Rattle.gnap_model.specs.Actions.Action.{Refuse, RefuseAndFinalize}
use Rattle.gnap_model.specs.Standing.{opening_in, is_live}
use Rattle.gnap_model.specs.Continue.{with_grant, continue_round}
use Rattle.gnap_model.specs.Manage.{on_grant, rotate_key}
use Rattle.gnap_model.specs.declared.objects.Setup.{Setup}
use Rattle.gnap_model.specs.declared.objects.ErrorCode.{ErrorCode}
use Rattle.gnap_model.specs.declared.objects.ErrorCode.TheVariants.{InvalidContinuation, InvalidInteraction, InvalidRotation}
use Rattle.gnap_model.specs.declared.notes.Note.{Note}
use Rattle.gnap_model.specs.declared.notes.DecisionNote.{DecisionNote}
use Rattle.gnap_model.specs.declared.notes.OpeningNote.{OpeningNote}
use Rattle.gnap_model.specs.declared.notes.RoundNote.{RoundNote}
use Rattle.gnap_model.specs.declared.notes.TokenNote.{TokenNote}
use Rattle.gnap_history.specs.declared.drawing.NotedReply.{NotedReply}
use Rattle.gnap_history.specs.Drawings.{IsAnswer}

pub answers_as : (supply : Supply) (answered : NotedReply) (action same : Action) → same ≡ action
    → IsAnswer (outcome_of supply action) answered → IsAnswer (outcome_of supply same) answered
answers_as supply answered action same is h = subst (λ (a : Action). IsAnswer (outcome_of supply a) answered) (sym is) h

pub acts_as : (supply : Supply) (result : Result NotedReply Mem) (action same : Action) → same ≡ action
    → IfOk result (IsAnswer (outcome_of supply action)) → IfOk result (IsAnswer (outcome_of supply same))
acts_as supply result action same is h = subst (λ (a : Action). IfOk result (IsAnswer (outcome_of supply a))) (sym is) h

-- What answers an action on what was found answers the look-up.
pub found_as : {A : Type 0} (supply : Supply) (result : Result NotedReply Mem) (code : ErrorCode) (act : A → Action) (found : Option A) (x : A) → found ≡ Some x
    → IfOk result (IsAnswer (outcome_of supply (act x))) → IfOk result (IsAnswer (outcome_of supply (on_found code act found)))
found_as supply result code act found x is h = acts_as supply result (act x) (on_found code act found) (rw is refl) h

-- What is done on a continuation value, by the grant that was looked up.
pub with_grant_as : (act : OpeningNote → Action) (key : Text) (named found : Option OpeningNote) (action : Action) → found ≡ named
    → on_found InvalidContinuation (with_key act key) found ≡ action → with_grant act key named ≡ action
with_grant_as act key named found action is acts = ap (λ (o : Option OpeningNote). on_found InvalidContinuation (with_key act key) o) (sym is) ∙ acts

-- What is done on a token's grant, by the grant that was looked up.
pub on_grant_as : (code : ErrorCode) (trail : List Note) (key : Text) (t : TokenNote) (act : OpeningNote → Action) (found : Option OpeningNote)
    (action : Action)
    → found ≡ first_of (opening_in t.grant) trail → on_found code (with_owner act t.key key) found ≡ action → on_grant code trail key t act ≡ action
on_grant_as code trail key t act found action is acts = ap (λ (o : Option OpeningNote). on_found code (with_owner act t.key key) o) (sym is) ∙ acts

-- A live token is rotated as its grant says.
pub rotates_as : (rules : Setup) (trail : List Note) (now : ℕ) (key : Text) (t : TokenNote) (new_key : Option Text) (found : Option OpeningNote)
    (action : Action)
    → is_live trail now t ≡ true → found ≡ first_of (opening_in t.grant) trail
    → on_found InvalidRotation (with_owner (rotate_key rules new_key t) t.key key) found ≡ action
    → (if is_live trail now t then on_grant InvalidRotation trail key t (rotate_key rules new_key t) else Refuse InvalidRotation) ≡ action
rotates_as rules trail now key t new_key found action live is acts = rw live
    (on_grant_as InvalidRotation trail key t (rotate_key rules new_key t) found action is acts)

-- A round without a decision, whose time for it is over, ends its grant.
pub ran_out : (trail : List Note) (now : ℕ) (o : OpeningNote) (reference : Option Text) (decision : Option DecisionNote) (round : RoundNote)
    → is_some decision ≡ false → round.until ≤ now → continue_round trail now o reference decision round ≡ RefuseAndFinalize o InvalidInteraction
ran_out trail now o reference decision round none over = let past : nat_le round.until now ≡ true = grind (arith, nat_tests) in rw (none, past) refl

pub none_mapped : {X Y : Type 0} (f : X → Y) (o : Option X) (d : Option Y) → option_map f o ≡ d → is_none o ≡ true → is_some d ≡ false
none_mapped f None d is none = rw (sym is) refl
none_mapped f (Some x) d is none = cc none
