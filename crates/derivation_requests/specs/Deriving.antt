-- Requests for derived tokens (RFC 9767, section 4): a grant request of a pair's client presents a token, the parent, from which the one that it asks for is to
-- be
-- derived.
use Rattle.std.specs.Prelude.{◌≡◌, ◌≢◌, ℕ, List, length, nat_lt, Option, Some, None, option_and_then, if◌then◌else◌, codes}
use Rattle.std.specs.Result.{result_ok}
use Rattle.std.specs.Str.{IsUtf8}
use Rattle.bytes_and_lists.specs.declared.message.Message.{Message}
use Rattle.serde_json.specs.Data.{Data}
use Rattle.serde_json.specs.Find.{get, as_str}
use Rattle.structured_fields.specs.Named.{value_at}
use Rattle.json_objects.specs.Bodies.{body_of}
use Rattle.gnap_model.specs.Common.{Text}
use Rattle.gnap_model.specs.declared.objects.ErrorCode.TheVariants.{InvalidRequest}
use Rattle.gnap_model.specs.declared.objects.GrantRequest.{GrantRequest}
use Rattle.gnap_model.specs.declared.objects.Setup.{Setup}
use Rattle.gnap_model.specs.declared.calls.Call.{Call}
use Rattle.gnap_model.specs.declared.calls.Call.TheVariants.{Begin}
use Rattle.signed_calls.specs.declared.signed.Signed.{Signed}
use Rattle.grant_machine.specs.Gnap.{SignedFits}
use Rattle.as_requests.specs.declared.desk_calls.DirectAnswer.TheVariants.{Error}
use Rattle.as_requests.specs.declared.desk_calls.RequestStep.{RequestStep}
use Rattle.as_requests.specs.declared.desk_calls.RequestStep.TheVariants.{Direct, Ask}
use Rattle.as_requests.specs.DeskCalls.{desk_call, IsAskable}
use Rattle.derivation_requests.specs.declared.derive_calls.DeriveStep.{DeriveStep}
use Rattle.derivation_requests.specs.declared.derive_calls.DeriveStep.TheVariants.{Plain, Derive}
use Rattle.derivation_requests.specs.Pairs.{Pair}

-- how many bytes a parent has at most
abbrev pub parent_limit : ℕ
parent_limit = 64

-- the text, where it may be a parent
abbrev pub short_text : Text → Option Text
short_text text = if nat_lt parent_limit (length text) then None else Some text

-- the parent: the string `existing_access_token`, where it isn't too long
abbrev pub parent_in : Data → Option Text
parent_in d = option_and_then short_text (option_and_then as_str (get (codes "existing_access_token") d))

abbrev pub parent_of : List ℕ → Option Text
parent_of body = option_and_then parent_in (result_ok (body_of body))

-- the server of the pair that this client has
abbrev pub server_of : List Pair → Text → Option Text
server_of pairs client = value_at pairs client

-- the client that asks for a grant
abbrev pub beginner : Call → Option Text
beginner (Begin key request not_after) = Some key
beginner _ = None

-- a grant request of a pair's client has to name a parent
abbrev pub by_parent : Signed → Text → Option Text → DeriveStep
by_parent begin server None = Plain (Direct (Error InvalidRequest))
by_parent begin server (Some parent) = Derive parent server begin

abbrev pub by_server : List ℕ → Signed → Option Text → DeriveStep
by_server body call None = Plain (Ask call)
by_server body call (Some server) = by_parent call server (parent_of body)

-- what is made of what the message asks of the authorization server
abbrev pub derive_step : List Pair → Message → RequestStep → DeriveStep
derive_step pairs m (Direct answer) = Plain (Direct answer)
derive_step pairs m (Ask call) = by_server m.body call (option_and_then (server_of pairs) (beginner call.call))

-- What the message asks at this moment, in seconds since 1970.
unfoldable pub derive_call : List Pair → Setup → Message → ℕ → DeriveStep
derive_call pairs setup m moment = derive_step pairs m (desk_call setup m moment)

-- the call asks for a grant
abbrev pub IsBegin : Call → Type 0
IsBegin call = (key : Text) × (request : GrantRequest) × (not_after : Option ℕ) × (call ≡ Begin key request not_after)

-- The machine takes the call, which isn't its lapse. Of a derivation it takes the grant request, and an introspection by the server.
abbrev pub IsDerivable : DeriveStep → Type 0
IsDerivable (Plain step) = IsAskable step
IsDerivable (Derive parent server begin) = IsUtf8 server × SignedFits begin × IsBegin begin.call
