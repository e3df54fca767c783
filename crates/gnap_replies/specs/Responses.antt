-- What goes out for a reply: an HTTP status and, mostly, a JSON object.
use Rattle.std.specs.Prelude.{ℕ, List, Option, Some, None, option_map}
use Rattle.serde_json.specs.Data.{Data}
use Rattle.serde_json.specs.Written.{compact_text}
use Rattle.json_objects.specs.Objects.{object_of}
use Rattle.gnap_model.specs.declared.objects.Setup.{Setup}
use Rattle.gnap_model.specs.declared.objects.ErrorCode.{ErrorCode}
use Rattle.gnap_model.specs.declared.calls.Reply.{Reply}
use Rattle.gnap_model.specs.declared.calls.Reply.TheVariants as reply
use Rattle.gnap_replies.specs.Grants.{interact_data, granted_fields, pending_fields, continuing_fields, rotated_fields}
use Rattle.gnap_replies.specs.Interactions.{shown_fields, handle_fields, decided_fields}
use Rattle.gnap_replies.specs.Introspections.{active_fields, inactive_fields}
use Rattle.gnap_model.specs.Codes.{error_status}
use Rattle.gnap_replies.specs.Errors.{error_fields}

pub record Response : Type 0 where
  pub status : ℕ
  pub body : Option Data

-- with the object of these members
abbrev pub response : ℕ → List (List ℕ × Option Data) → Response
response status fields = record { status = status; body = Some (object_of fields) }

-- without a body
abbrev pub empty_response : ℕ → Response
empty_response status = record { status = status; body = None }

abbrev pub error_response : ErrorCode → Response
error_response code = response (error_status code) (error_fields code)

unfoldable pub response_of : Setup → Reply → Response
response_of setup (reply.Granted door tokens single subject instance) = response 200 (granted_fields setup.base door tokens single subject instance)
response_of setup (reply.Pending door modes handle code nonce expires_in instance) =
    response 200 (pending_fields setup.base door (interact_data setup.front modes handle code nonce expires_in) instance)
response_of setup (reply.Continuing door) = response 200 (continuing_fields setup.base door)
response_of setup (reply.Rotated token) = response 200 (rotated_fields setup.base token)
response_of setup reply.Done = empty_response 204
response_of setup (reply.Active access iat exp instance bearer) = response 200 (active_fields setup.base access iat exp instance bearer)
response_of setup reply.Inactive = response 200 inactive_fields
response_of setup (reply.Shown asks client expires_in subject user) = response 200 (shown_fields asks client expires_in subject user)
response_of setup (reply.Handle handle) = response 200 (handle_fields handle)
response_of setup (reply.Decided finish) = response 200 (decided_fields setup.base finish)
response_of setup (reply.Error code) = error_response code
response_of setup reply.Lapsed = empty_response 503

-- the status, and the compact text of the body
abbrev pub text_of : Response → ℕ × Option (List ℕ)
text_of r = (r.status, option_map compact_text r.body)
