-- What a line has the client do: the request that is due, and what is printed.
use Rattle.std.specs.Prelude.{◌≡◌, ℕ, Bool, true, false, List, [], ◌∷◌, ◌++◌, Result, Ok, Err, codes, decimal}
use Rattle.std.specs.Str.{IsUtf8}
use Rattle.gnap_model.specs.Codes.{error_text}
use Rattle.gnap_objects.specs.Fits.{RequestFits}
use Rattle.gnap_objects.specs.CallsFit.{ModesFitOr}
use Rattle.gnap_model.specs.declared.objects.GrantRequest.{GrantRequest}
use Rattle.signed_requests.specs.Forms.{is_method, is_target}
use Rattle.gnap_client.specs.declared.client.State.{State}
use Rattle.gnap_client.specs.declared.client.State.TheVariants as states
use Rattle.gnap_client.specs.declared.client.Took.{Took}
use Rattle.gnap_client.specs.declared.client.Took.TheVariants as tooks
use Rattle.gnap_client.specs.declared.client.Client.{Client}
use Rattle.gnap_client.specs.declared.client.ClientFault.{ClientFault}
use Rattle.gnap_client.specs.declared.client.ClientFault.TheVariants as faults
use Rattle.gnap_client.specs.declared.calls.DueRequest.{DueRequest}
use Rattle.gnap_client.specs.Calls.{begin_call, poll_call, patch_call, cancel_call, finish_call, rotate_call, revoke_call, use_call, HasAsked}
use Rattle.client_scripts.specs.declared.deeds.Deed.{Deed}
use Rattle.client_scripts.specs.declared.deeds.ScriptStep.{ScriptStep}
use Rattle.client_scripts.specs.declared.deeds.Deed.TheVariants.{Begin, Poll, Finish, Patch, Cancel, Rotate, Revoke, Use}

-- ---- what is done

-- the texts of a request can be shown
abbrev pub CanBeShown : GrantRequest → Type 0
CanBeShown request = RequestFits request × ModesFitOr request.modes

-- a deed whose texts can be sent
abbrev pub DeedFits : Deed → Type 0
DeedFits (Begin request) = CanBeShown request
DeedFits Poll = Unit {0}
DeedFits (Finish hash reference) = IsUtf8 reference
DeedFits (Patch request) = CanBeShown request
DeedFits Cancel = Unit {0}
DeedFits (Rotate token) = Unit {0}
DeedFits (Revoke token) = Unit {0}
DeedFits (Use token method path) = (is_method method ≡ true) × (is_target path ≡ true)

-- the request that is due
abbrev pub due_of : Deed → Client → Result DueRequest ClientFault
due_of (Begin request) c = begin_call c request
due_of Poll c = poll_call c
due_of (Finish hash reference) c = finish_call c hash reference
due_of (Patch request) c = patch_call c request
due_of Cancel c = cancel_call c
due_of (Rotate token) c = rotate_call c token
due_of (Revoke token) c = revoke_call c token
due_of (Use token method path) c = use_call c token method path

-- the client was asked for the request of this step
abbrev pub Called : ScriptStep → Client → Client → Result (List ℕ) ClientFault → Type 0
Called step old new result = HasAsked (due_of step.deed old) step.at step.nonce old new result

-- ---- what is printed

abbrev pub word_of : Deed → List ℕ
word_of (Begin request) = codes "begin"
word_of Poll = codes "poll"
word_of (Finish hash reference) = codes "finish"
word_of (Patch request) = codes "patch"
word_of Cancel = codes "cancel"
word_of (Rotate token) = codes "rotate"
word_of (Revoke token) = codes "revoke"
word_of (Use token method path) = codes "use"

abbrev pub state_text : State → List ℕ
state_text states.Fresh = codes "Fresh"
state_text states.Pending = codes "Pending"
state_text states.Approved = codes "Approved"
state_text states.Ended = codes "Ended"

-- where the line was ok: the client's state, or the status of a resource server
abbrev pub ok_text : State → Took → List ℕ
ok_text state (tooks.Resource status body) = codes " ok " ++ decimal status
ok_text state tooks.Granted = codes " ok " ++ state_text state
ok_text state tooks.Pending = codes " ok " ++ state_text state
ok_text state tooks.Continuing = codes " ok " ++ state_text state
ok_text state tooks.Rotated = codes " ok " ++ state_text state
ok_text state tooks.Done = codes " ok " ++ state_text state

-- where it wasn't; want of memory prints nothing
abbrev pub fault_text : ClientFault → List ℕ
fault_text faults.NotInGrammar = codes " NotInGrammar"
fault_text (faults.HashDiffers wanted found) = codes " HashDiffers"
fault_text (faults.WrongState state) = codes " WrongState"
fault_text (faults.NoToken held) = codes " NoToken"
fault_text (faults.Refused code) = codes " refused " ++ error_text code
fault_text faults.LinkFault = codes " LinkFault"
fault_text faults.OutOfMemory = []

abbrev pub outcome_text : State → Result Took ClientFault → List ℕ
outcome_text state (Ok took) = ok_text state took
outcome_text state (Err fault) = fault_text fault

-- the line that is printed
abbrev pub said_line : Deed → State → Result Took ClientFault → List ℕ
said_line deed state answer = word_of deed ++ (outcome_text state answer ++ 10 ∷ [])

abbrev pub is_fine : Result Took ClientFault → Bool
is_fine (Ok took) = true
is_fine (Err fault) = false

abbrev pub bad_line : List ℕ
bad_line = codes "bad line\n"
