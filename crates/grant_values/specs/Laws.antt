-- What holds of requests that are printed.
use Rattle.std.specs.Prelude.{◌≡◌, ℕ, List, Bool, Option, option_map, Ok, codes}
use Rattle.serde_json.specs.Data.{Data, string}
use Rattle.serde_json.specs.Find.{get}
use Rattle.gnap_model.specs.declared.objects.GrantRequest.{GrantRequest}
use Rattle.gnap_objects.specs.Fits.{RequestFits}
use Rattle.gnap_objects.specs.Grants.{request_of}
use Rattle.grant_values.specs.Grants.{request_data}

-- the request was read of some body, of a modification's where it says so; its texts fit, as those of each request that `read_grant` gives
pub record IsRead (modify : Bool) (request : GrantRequest) : Type 0 where
  pub body : Data
  pub read : request_of modify body ≡ Ok request
  pub fits : RequestFits request

-- What is read of the printed request is the request, whatever existing token it presents; and that token stands in it.
abbrev pub ReadsBack : Type 0
ReadsBack = (modify : Bool) (existing : Option (List ℕ)) (request : GrantRequest) → IsRead modify request
    → (request_of modify (request_data existing request) ≡ Ok request)
    × (get (codes "existing_access_token") (request_data existing request) ≡ option_map string existing)
