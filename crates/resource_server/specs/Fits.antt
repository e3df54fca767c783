-- Setups as their reader gives them.
use Rattle.std.specs.Prelude.{◌≡◌, true}
use Rattle.std.specs.List.{list_all, AllByRecursion}
use Rattle.std.specs.Str.{IsUtf8}
use Rattle.structured_fields.specs.Letters.{is_string_byte}
use Rattle.access_rights.specs.Fits.{Fits}
use Rattle.signed_requests.specs.Forms.{is_method}
use Rattle.resource_server.specs.declared.setup.Route.{Route}
use Rattle.resource_server.specs.declared.setup.RsSetup.{RsSetup}

-- its method is of upper-case letters, and its right and its text can be shown as JSON
pub record RouteFits (r : Route) : Type 0 where
  pub method : is_method r.method ≡ true
  pub right : Fits r.right
  pub text : IsUtf8 r.text

-- the id can be written in a signature and as JSON, and the routes fit
pub record RsSetupFits (s : RsSetup) : Type 0 where
  pub id_string : list_all is_string_byte s.id ≡ true
  pub id_utf8 : IsUtf8 s.id
  pub routes : AllByRecursion RouteFits s.routes
