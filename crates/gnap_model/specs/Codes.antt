-- The codes of errors (RFC 9635, section 3.6; RFC 9767, section 3.3), and the HTTP status of each.
use Rattle.std.specs.Prelude.{ℕ, List, codes}
use Rattle.gnap_model.specs.declared.objects.ErrorCode.{ErrorCode}
use Rattle.gnap_model.specs.declared.objects.ErrorCode.TheVariants as code

-- the code as it stands in a reply
abbrev pub error_text : ErrorCode → List ℕ
error_text code.InvalidRequest = codes "invalid_request"
error_text code.InvalidClient = codes "invalid_client"
error_text code.InvalidInteraction = codes "invalid_interaction"
error_text code.InvalidFlag = codes "invalid_flag"
error_text code.InvalidRotation = codes "invalid_rotation"
error_text code.KeyRotationNotSupported = codes "key_rotation_not_supported"
error_text code.InvalidContinuation = codes "invalid_continuation"
error_text code.UserDenied = codes "user_denied"
error_text code.RequestDenied = codes "request_denied"
error_text code.UnknownUser = codes "unknown_user"
error_text code.UnknownInteraction = codes "unknown_interaction"
error_text code.TooFast = codes "too_fast"
error_text code.TooManyAttempts = codes "too_many_attempts"
error_text code.InvalidResourceServer = codes "invalid_resource_server"
error_text code.InvalidAccess = codes "invalid_access"

-- 401 where the caller isn't shown to be who may call, else 400
abbrev pub error_status : ErrorCode → ℕ
error_status code.InvalidRequest = 400
error_status code.InvalidClient = 401
error_status code.InvalidInteraction = 400
error_status code.InvalidFlag = 400
error_status code.InvalidRotation = 400
error_status code.KeyRotationNotSupported = 400
error_status code.InvalidContinuation = 401
error_status code.UserDenied = 400
error_status code.RequestDenied = 400
error_status code.UnknownUser = 400
error_status code.UnknownInteraction = 400
error_status code.TooFast = 400
error_status code.TooManyAttempts = 400
error_status code.InvalidResourceServer = 401
error_status code.InvalidAccess = 400
