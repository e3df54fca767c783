-- Inclusion by bits: a value of a wanted right has one bit for each granted right that may have it.
use Rattle.std.specs.Prelude.{ℕ, ◌+◌, ◌*◌, ◌==◌, ◌&&◌, bit_and, not, Bool, false, List, [], ◌∷◌, if◌then◌else◌}
use Rattle.std.specs.List.{list_any, list_all}
use Rattle.std.specs.declared.option.Option.{Option}
use Rattle.gnap_model.specs.Common.{Text, same_text, same_option}
use Rattle.gnap_model.specs.declared.rights.Right.{Right}
use Rattle.gnap_model.specs.declared.rights.Right.TheVariants.{Reference, Object}
use Rattle.gnap_model.specs.declared.rights.RightObject.{RightObject}
use Rattle.gnap_model.specs.Rights.{values_of}
use Rattle.access_rights.specs.declared.masks.Dimension.{Dimension}
use Rattle.access_rights.specs.declared.masks.Dimension.TheVariants.{Actions, Locations, Datatypes, Privileges}

abbrev pub texts_in : Dimension → RightObject → Option (List Text)
texts_in Actions right = right.actions
texts_in Locations right = right.locations
texts_in Datatypes right = right.datatypes
texts_in Privileges right = right.privileges

-- the granted right is one in full, of the wanted one's type, identifier and further members
abbrev pub is_alike : RightObject → Right → Bool
is_alike wanted (Reference name) = false
is_alike wanted (Object own) = same_text wanted.kind own.kind && same_option wanted.identifier own.identifier && same_text wanted.further own.further

-- the granted right has the value in the dimension
abbrev pub has_value : Dimension → Option Text → Right → Bool
has_value dimension value (Reference name) = false
has_value dimension value (Object own) = list_any (same_option value) (values_of (texts_in dimension own))

abbrev pub with_bit : ℕ → Bool → ℕ
with_bit bits set = if set then 2 * bits + 1 else 2 * bits

-- after the bits before, one for each of the rights that are alike: whether it has what is asked
abbrev pub bits_from : (Right → Bool) → (Right → Bool) → ℕ → List Right → ℕ
bits_from alike has bits [] = bits
bits_from alike has bits (right ∷ rights) = bits_from alike has (if alike right then with_bit bits (has right) else bits) rights

-- the bits of a value
abbrev pub mask_of : List Right → RightObject → Dimension → Option Text → ℕ
mask_of granted wanted dimension value = bits_from (is_alike wanted) (has_value dimension value) 0 granted

-- each of the values shares a bit with those before
abbrev pub privileges_meet : ℕ → List ℕ → Bool
privileges_meet bits privileges = list_all (λ mask. not (bit_and bits mask == 0)) privileges

abbrev pub datatypes_meet : ℕ → List ℕ → List ℕ → Bool
datatypes_meet bits datatypes privileges = list_all (λ mask. privileges_meet (bit_and bits mask) privileges) datatypes

abbrev pub locations_meet : ℕ → List ℕ → List ℕ → List ℕ → Bool
locations_meet bits locations datatypes privileges = list_all (λ mask. datatypes_meet (bit_and bits mask) datatypes privileges) locations

-- each choice of a value from each dimension shares a bit
abbrev pub choices_meet : List ℕ → List ℕ → List ℕ → List ℕ → Bool
choices_meet actions locations datatypes privileges = list_all (λ mask. locations_meet mask locations datatypes privileges) actions
