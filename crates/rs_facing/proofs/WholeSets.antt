-- What goes out of a set has no float, so that its text is known.
use Rattle.std.proofs.Common.{◌≡◌, List, false, refl}
use Rattle.std.specs.List.{AllByRecursion}
use Rattle.serde_json.specs.Data.{no_members}
use Rattle.serde_json.specs.Written.{has_float}
use Rattle.json_objects.specs.Objects.{object_of}
use Rattle.json_objects.proofs.Whole.{onto_whole}
use Rattle.access_rights.specs.Fits.{Fits}
use Rattle.access_rights.proofs.Whole.{rights_whole}
use Rattle.gnap_model.specs.Common.{Text}
use Rattle.gnap_model.specs.declared.rights.Right.{Right}
use Rattle.rs_facing.specs.SetReplies.{registered_fields, resolved_fields}

pub registered_whole : (reference : Text) → has_float (object_of (registered_fields reference)) ≡ false
registered_whole reference = refl

pub resolved_whole : (server : Text) (rights : List Right) → AllByRecursion Fits rights → has_float (object_of (resolved_fields server rights)) ≡ false
resolved_whole server rights fits = onto_whole no_members (resolved_fields server rights) refl (rights_whole rights fits, (refl, tt))
