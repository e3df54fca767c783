-- The routes of the authorization server, and what their methods are for.
-- Bytes stand by their numbers: 32 SP, 44 `,`.
use Rattle.std.specs.Prelude.{ℕ, List, [], ◌∷◌, Option, Some, None, if◌then◌else◌, codes}
use Rattle.std.specs.Str.{bytes_eq}
use Rattle.structured_fields.specs.Canonical.{separated_text}
use Rattle.gnap_objects.specs.declared.call_reading.CallKind.{CallKind}
use Rattle.gnap_objects.specs.declared.call_reading.CallKind.TheVariants.{Begin, Continue, Modify, Cancel, Rotate, Revoke, Introspect, Look, FindCode, Decide}
use Rattle.as_requests.specs.declared.routes.Route.{Route}
use Rattle.as_requests.specs.declared.routes.Route.TheVariants as route
use Rattle.as_requests.specs.declared.routes.Purpose.{Purpose}
use Rattle.as_requests.specs.declared.routes.Purpose.TheVariants as purpose

abbrev pub route_at : List ℕ → Option Route
route_at path = if bytes_eq path (codes "/gnap") then Some route.Grants
    else (if bytes_eq path (codes "/continue") then Some route.Continuation
    else (if bytes_eq path (codes "/token") then Some route.TokenManagement
    else (if bytes_eq path (codes "/introspect") then Some route.Introspection
    else (if bytes_eq path (codes "/front/look") then Some route.FrontLook
    else (if bytes_eq path (codes "/front/code") then Some route.FrontCode
    else (if bytes_eq path (codes "/front/decide") then Some route.FrontDecide
    else (if bytes_eq path (codes "/.well-known/gnap-as-rs") then Some route.RsDiscovery else None)))))))

-- the one method of a route that is for one call
abbrev pub posts : CallKind → List (List ℕ × Purpose)
posts kind = (codes "POST", purpose.Calls kind) ∷ []

-- the methods of a route, each with what it is for, in the order in which `Allow` lists them
abbrev pub methods_of : Route → List (List ℕ × Purpose)
methods_of route.Grants = (codes "POST", purpose.Calls Begin) ∷ (codes "OPTIONS", purpose.Discovery) ∷ []
methods_of route.Continuation = (codes "POST", purpose.Calls Continue) ∷ (codes "PATCH", purpose.Calls Modify) ∷ (codes "DELETE", purpose.Calls Cancel) ∷ []
methods_of route.TokenManagement = (codes "POST", purpose.Calls Rotate) ∷ (codes "DELETE", purpose.Calls Revoke) ∷ []
methods_of route.Introspection = posts Introspect
methods_of route.FrontLook = posts Look
methods_of route.FrontCode = posts FindCode
methods_of route.FrontDecide = posts Decide
methods_of route.RsDiscovery = (codes "GET", purpose.RsDiscovery) ∷ []

-- the value of `Allow` (RFC 9110, section 10.2.1)
abbrev pub allowed_methods : Route → List ℕ
allowed_methods r = separated_text (44 ∷ 32 ∷ []) (λ m. m.0) (methods_of r)
