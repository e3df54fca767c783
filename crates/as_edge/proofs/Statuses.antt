-- The responses of the server have statuses that are used, and 204 has no body.
use Rattle.std.proofs.Common.{◌≡◌, ◌∙◌, ℕ, List, true, refl, ap, sym, arith}
use Rattle.std.specs.Prelude.{Option, None, option_map}
use Rattle.std.specs.List.{list_all}
use Rattle.serde_json.specs.Written.{compact_text}
use Rattle.http_edge.specs.Replies.{is_used, is_method_byte}
use Rattle.gnap_model.specs.declared.objects.Setup.{Setup}
use Rattle.gnap_model.specs.declared.objects.ErrorCode.{ErrorCode}
use Rattle.gnap_model.specs.declared.objects.ErrorCode.TheVariants as code
use Rattle.gnap_model.specs.declared.calls.Reply.{Reply}
use Rattle.gnap_model.specs.declared.calls.Reply.TheVariants as reply
use Rattle.gnap_replies.specs.Responses.{Response, response_of, error_response, text_of}
use Rattle.as_requests.specs.declared.routes.Route.{Route}
use Rattle.as_requests.specs.declared.routes.Route.TheVariants as route
use Rattle.as_requests.specs.Routes.{allowed_methods}

-- the response can be written
pub record IsWritable (r : Response) : Type 0 where
  pub used : is_used r.status ≡ true
  pub no_content : r.status ≡ 204 → r.body ≡ None

error_writable : (c : ErrorCode) → IsWritable (error_response c)
error_writable code.InvalidRequest = record { used = refl; no_content = λ e. absurd (omega (arith, e)) }
error_writable code.InvalidClient = record { used = refl; no_content = λ e. absurd (omega (arith, e)) }
error_writable code.InvalidInteraction = record { used = refl; no_content = λ e. absurd (omega (arith, e)) }
error_writable code.InvalidFlag = record { used = refl; no_content = λ e. absurd (omega (arith, e)) }
error_writable code.InvalidRotation = record { used = refl; no_content = λ e. absurd (omega (arith, e)) }
error_writable code.KeyRotationNotSupported = record { used = refl; no_content = λ e. absurd (omega (arith, e)) }
error_writable code.InvalidContinuation = record { used = refl; no_content = λ e. absurd (omega (arith, e)) }
error_writable code.UserDenied = record { used = refl; no_content = λ e. absurd (omega (arith, e)) }
error_writable code.RequestDenied = record { used = refl; no_content = λ e. absurd (omega (arith, e)) }
error_writable code.UnknownUser = record { used = refl; no_content = λ e. absurd (omega (arith, e)) }
error_writable code.UnknownInteraction = record { used = refl; no_content = λ e. absurd (omega (arith, e)) }
error_writable code.TooFast = record { used = refl; no_content = λ e. absurd (omega (arith, e)) }
error_writable code.TooManyAttempts = record { used = refl; no_content = λ e. absurd (omega (arith, e)) }
error_writable code.InvalidResourceServer = record { used = refl; no_content = λ e. absurd (omega (arith, e)) }
error_writable code.InvalidAccess = record { used = refl; no_content = λ e. absurd (omega (arith, e)) }

response_writable : (setup : Setup) (r : Reply) → IsWritable (response_of setup r)
unfolding response_of
response_writable setup (reply.Granted door tokens single subject instance) = record { used = refl; no_content = λ e. absurd (omega (arith, e)) }
response_writable setup (reply.Pending door modes handle code nonce expires_in instance) = record { used = refl; no_content = λ e. absurd (omega (arith, e)) }
response_writable setup (reply.Continuing door) = record { used = refl; no_content = λ e. absurd (omega (arith, e)) }
response_writable setup (reply.Rotated token) = record { used = refl; no_content = λ e. absurd (omega (arith, e)) }
response_writable setup reply.Done = record { used = refl; no_content = λ e. refl }
response_writable setup (reply.Active access iat exp instance bearer) = record { used = refl; no_content = λ e. absurd (omega (arith, e)) }
response_writable setup reply.Inactive = record { used = refl; no_content = λ e. absurd (omega (arith, e)) }
response_writable setup (reply.Shown asks client expires_in subject user) = record { used = refl; no_content = λ e. absurd (omega (arith, e)) }
response_writable setup (reply.Handle handle) = record { used = refl; no_content = λ e. absurd (omega (arith, e)) }
response_writable setup (reply.Decided finish) = record { used = refl; no_content = λ e. absurd (omega (arith, e)) }
response_writable setup (reply.Error c) = error_writable c
response_writable setup reply.Lapsed = record { used = refl; no_content = λ e. absurd (omega (arith, e)) }

-- ---- the same of what is printed

text_used : (r : Response) (printed : ℕ × Option (List ℕ)) → printed ≡ text_of r → IsWritable r → is_used printed.0 ≡ true
text_used r printed is w = ap (λ (p : ℕ × Option (List ℕ)). is_used p.0) is ∙ w.used

text_empty : (r : Response) (printed : ℕ × Option (List ℕ)) → printed ≡ text_of r → IsWritable r → printed.0 ≡ 204 → printed.1 ≡ None
text_empty r printed is w e = ap (λ (p : ℕ × Option (List ℕ)). p.1) is
    ∙ ap (option_map compact_text) (w.no_content (sym (ap (λ (p : ℕ × Option (List ℕ)). p.0) is) ∙ e))

pub printed_used : (setup : Setup) (r : Reply) (printed : ℕ × Option (List ℕ)) → printed ≡ text_of (response_of setup r) → is_used printed.0 ≡ true
printed_used setup r printed is = text_used (response_of setup r) printed is (response_writable setup r)

pub printed_empty : (setup : Setup) (r : Reply) (printed : ℕ × Option (List ℕ)) → printed ≡ text_of (response_of setup r) → printed.0 ≡ 204 → printed.1 ≡ None
printed_empty setup r printed is = text_empty (response_of setup r) printed is (response_writable setup r)

pub error_used : (c : ErrorCode) (printed : ℕ × Option (List ℕ)) → printed ≡ text_of (error_response c) → is_used printed.0 ≡ true
error_used c printed is = text_used (error_response c) printed is (error_writable c)

pub error_not_empty : (c : ErrorCode) (printed : ℕ × Option (List ℕ)) → printed ≡ text_of (error_response c) → printed.0 ≡ 204 → printed.1 ≡ None
error_not_empty c printed is = text_empty (error_response c) printed is (error_writable c)

-- the methods of a route may stand in a field
pub methods_fit : (r : Route) → list_all is_method_byte (allowed_methods r) ≡ true
methods_fit route.Grants = refl
methods_fit route.Continuation = refl
methods_fit route.TokenManagement = refl
methods_fit route.Introspection = refl
methods_fit route.FrontLook = refl
methods_fit route.FrontCode = refl
methods_fit route.FrontDecide = refl
methods_fit route.RsDiscovery = refl
