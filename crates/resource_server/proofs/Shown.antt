-- What is asked has no float, so that its text is known.
use Rattle.std.proofs.Common.{◌≡◌, ℕ, List, false, refl}
use Rattle.std.specs.List.{AllByRecursion}
use Rattle.serde_json.specs.Data.{no_members}
use Rattle.serde_json.specs.Written.{has_float}
use Rattle.gnap_model.specs.declared.rights.Right.{Right}
use Rattle.access_rights.specs.Fits.{Fits}
use Rattle.json_objects.proofs.Whole.{onto_whole}
use Rattle.access_rights.proofs.Whole.{rights_whole}
use Rattle.signed_requests.specs.declared.unsigned.Scheme.{Scheme}
use Rattle.resource_server.specs.Introspecting.{introspection_fields, introspection_data}

pub introspection_whole : (id : List ℕ) (rights : List Right) (token : Scheme × List ℕ) → AllByRecursion Fits rights
    → has_float (introspection_data id rights token) ≡ false
unfolding introspection_data
introspection_whole id rights token fits = onto_whole no_members (introspection_fields id rights token) refl
    (rights_whole rights fits, (refl, (refl, (refl, tt))))
