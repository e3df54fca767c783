-- Rights are printed without a float.
use Rattle.std.proofs.Common.{◌≡◌, List, [], ◌∷◌, map, false, refl}
use Rattle.std.specs.List.{AllByRecursion}
use Rattle.serde_json.specs.Read.{read}
use Rattle.serde_json.specs.Written.{has_float, items_have_float, members_have_float}
use Rattle.gnap_model.specs.declared.rights.Right.{Right}
use Rattle.gnap_model.specs.declared.rights.Right.TheVariants as rights
use Rattle.gnap_model.specs.declared.rights.RightObject.{RightObject}
use Rattle.json_objects.specs.Objects.{items}
use Rattle.json_objects.proofs.Whole.{onto_whole, texts_whole, text_whole}
use Rattle.access_rights.specs.Fits.{Fits, FitsObject}
use Rattle.access_rights.specs.Printing.{members_read, right_fields, right_members, right_data}

object_whole : (r : RightObject) → FitsObject r → members_have_float (right_members r) ≡ false
unfolding right_members
object_whole r fits = onto_whole (members_read (read r.further)) (right_fields r) (rw fits.further.read_as fits.further.whole)
    (refl, (texts_whole r.actions, (texts_whole r.locations, (texts_whole r.datatypes, (texts_whole r.privileges, (text_whole r.identifier, tt))))))

right_whole : (r : Right) → Fits r → has_float (right_data r) ≡ false
right_whole (rights.Reference s) fits = refl
right_whole (rights.Object r) fits = object_whole r fits

pub rights_whole : (rs : List Right) → AllByRecursion Fits rs → items_have_float (items (map right_data rs)) ≡ false
rights_whole [] fits = refl
rights_whole (r ∷ rs) fits = rw (right_whole r fits.0, rights_whole rs fits.1)
