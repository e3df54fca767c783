-- Rights that JSON can show: texts of UTF-8, and further members that are the compact text of an object.
use Rattle.std.specs.Prelude.{◌≡◌, ℕ, ◌||◌, List, Bool, false, Some, codes}
use Rattle.std.specs.Str.{bytes_eq, IsUtf8}
use Rattle.serde_json.specs.Data.{object, Members, no_members, member}
use Rattle.serde_json.specs.Read.{read}
use Rattle.serde_json.specs.Written.{compact_text, members_have_float}
pub use Rattle.json_objects.specs.Texts.{IsUtf8Or, AreUtf8}
use Rattle.gnap_model.specs.declared.rights.RightObject.{RightObject}
use Rattle.gnap_model.specs.declared.rights.Right.{Right}
use Rattle.gnap_model.specs.declared.rights.Right.TheVariants as rights

-- the members that a right in full has a field for (RFC 9635, section 8)
unfoldable pub is_own : List ℕ → Bool
is_own k = bytes_eq k (codes "type") || bytes_eq k (codes "actions") || bytes_eq k (codes "locations")
    || bytes_eq k (codes "datatypes") || bytes_eq k (codes "privileges") || bytes_eq k (codes "identifier")

abbrev pub HasOthersOnly : Members → Type 0
HasOthersOnly no_members = Unit {0}
HasOthersOnly (member k d ms) = (is_own k ≡ false) × HasOthersOnly ms

-- the compact text of an object of other members, in which each number is whole
pub record IsFurther (f : List ℕ) : Type 0 where
  pub utf8 : IsUtf8 f
  pub members : Members
  pub read_as : read f ≡ Some (object members)
  pub whole : members_have_float members ≡ false
  pub others_only : HasOthersOnly members
  pub compact : compact_text (object members) ≡ f

pub record FitsObject (r : RightObject) : Type 0 where
  pub kind : IsUtf8 r.kind
  pub actions : AreUtf8 r.actions
  pub locations : AreUtf8 r.locations
  pub datatypes : AreUtf8 r.datatypes
  pub privileges : AreUtf8 r.privileges
  pub identifier : IsUtf8Or r.identifier
  pub further : IsFurther r.further

-- the right can be shown as JSON
abbrev pub Fits : Right → Type 0
Fits (rights.Reference s) = IsUtf8 s
Fits (rights.Object r) = FitsObject r
