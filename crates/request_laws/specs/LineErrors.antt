-- Why a line of a replay is answered at once, so that the machine isn't asked (RFC 9635, section 3.6; RFC 9767, section 3.5).
use Rattle.std.specs.Prelude.{◌≡◌, ◌≢◌, ◌⊎◌, ◌<◌, ℕ, true, false, List, [], length, codes, Some, None, IsSome}
use Rattle.std.specs.Str.{is_utf8}
use Rattle.serde_json.specs.Data.{Data}
use Rattle.serde_json.specs.Find.{get}
use Rattle.serde_json.specs.Read.{read}
use Rattle.gnap_model.specs.Common.{Text}
use Rattle.gnap_model.specs.Keys.{key_of}
use Rattle.gnap_model.specs.declared.objects.ErrorCode.{ErrorCode}
use Rattle.gnap_model.specs.declared.objects.ErrorCode.TheVariants.{InvalidRequest, InvalidClient, InvalidFlag, InvalidResourceServer}
use Rattle.gnap_model.specs.declared.objects.Setup.{Setup}
use Rattle.gnap_objects.specs.declared.call_reading.CallKind.{CallKind}
use Rattle.gnap_objects.specs.declared.call_reading.CallKind.TheVariants.{Introspect}
use Rattle.gnap_objects.specs.CallReading.{Body, is_caller}
use Rattle.call_replay.specs.declared.call_lines.LineStep.TheVariants.{Say}
use Rattle.call_replay.specs.CallLines.{moment_of, text_under, value_of, draw_of, has_body_form, nonce_in, created_in, line_body, kind_named, line_limit, line_step}
use Rattle.call_replay.specs.ReplyLines.{error_line}
use Rattle.request_laws.specs.DirectErrors.{HasOtherForm, NamesAnother, RepeatsFlag}

-- ---- what the causes speak of

-- the line is a JSON object whose members have their forms: a call of this name by the key of this id, with this body
pub record IsCallLine (line : List ℕ) (name key : Text) (body : Body) : Type 0 where
  pub text : is_utf8 line ≡ true
  pub object : Data
  pub reads : read line ≡ Some object
  pub moment : IsSome (moment_of object)
  pub name_is : text_under (codes "call") object ≡ Some name
  pub key_is : text_under (codes "key") object ≡ Some key
  pub value : IsSome (value_of object)
  pub draw : IsSome (draw_of object)
  pub body_form : has_body_form object ≡ true
  pub nonce : IsSome (nonce_in object)
  pub created : IsSome (created_in object)
  pub body_is : body ≡ line_body (get (codes "body") object)

abbrev pub IsNoCallLine : List ℕ → Type 0
IsNoCallLine line = (name key : Text) (body : Body) → IsCallLine line name key body → ⊥

-- it is a call line, and there is no call of its name
abbrev pub NamesNoCall : List ℕ → Type 0
NamesNoCall line = (name : Text) × (key : Text) × (body : Body) × IsCallLine line name key body × (kind_named name ≡ None)

-- it is a call line for this call
abbrev pub IsLineFor : List ℕ → CallKind → Text → Body → Type 0
IsLineFor line kind key body = (name : Text) × IsCallLine line name key body × (kind_named name ≡ Some kind)

-- the key has another role than the call's, or the body names another than the key
abbrev pub LacksItsCaller : Setup → CallKind → Text → Body → Type 0
LacksItsCaller setup kind key body = (is_caller kind (key_of setup key) ≡ false) ⊎ ((is_caller kind (key_of setup key) ≡ true) × NamesAnother kind key body)

-- ---- the causes

-- What each code takes of a call. No other one is answered at once.
abbrev pub IsRefusedWith : Setup → CallKind → Text → Body → ErrorCode → Type 0
IsRefusedWith setup kind key body InvalidClient = (kind ≢ Introspect) × LacksItsCaller setup kind key body
IsRefusedWith setup kind key body InvalidResourceServer = (kind ≡ Introspect) × LacksItsCaller setup kind key body
IsRefusedWith setup kind key body InvalidFlag = (is_caller kind (key_of setup key) ≡ true) × RepeatsFlag kind key body
IsRefusedWith setup kind key body InvalidRequest = (is_caller kind (key_of setup key) ≡ true) × HasOtherForm kind body
IsRefusedWith setup kind key body _ = ⊥

-- the line is for a call that is refused with the code, or it is no call line, which is an invalid request
abbrev pub HasLineCause : Setup → List ℕ → ErrorCode → Type 0
HasLineCause setup line code = ((kind : CallKind) × (key : Text) × (body : Body) × IsLineFor line kind key body × IsRefusedWith setup kind key body code)
    ⊎ ((code ≡ InvalidRequest) × IsNoCallLine line)

-- Nothing is said to an empty line, 413 to one that is too long, 404 to one for a call that there isn't, and else an error whose code has its cause.
abbrev pub IsSaidFor : Setup → List ℕ → List ℕ → Type 0
IsSaidFor setup line text = ((line ≡ []) × (text ≡ []))
    ⊎ (((line_limit < length line) × (text ≡ codes "413\n"))
    ⊎ ((NamesNoCall line × (text ≡ codes "404\n"))
    ⊎ ((code : ErrorCode) × (text ≡ error_line code) × HasLineCause setup line code)))

abbrev pub LineErrorsHaveCauses : Type 0
LineErrorsHaveCauses = (setup : Setup) (number : ℕ) (line text : List ℕ) → line_step setup number line ≡ Say text → IsSaidFor setup line text
