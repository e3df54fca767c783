-- The dimensions of a right in full, read together.
use Rattle.std.specs.Prelude.{ℕ, ◌≤◌, ◌*◌, List, Option, Result, Ok, Err, nat_lt, if◌then◌else◌, codes}
use Rattle.serde_json.specs.Data.{Data}
use Rattle.json_objects.specs.Reading.{◌>>=◌}
use Rattle.gnap_model.specs.declared.rights.RightObject.{RightObject}
use Rattle.access_rights.specs.declared.reading.Dimensions.{Dimensions}
use Rattle.access_rights.specs.declared.reading.RightsFault.{RightsFault}
use Rattle.access_rights.specs.declared.reading.RightsFault.TheVariants as faults
use Rattle.access_rights.specs.Fits.{AreUtf8}
use Rattle.access_rights.specs.Reading.{dimension_of, extent}

abbrev pub dimensions_of : Data → Result Dimensions RightsFault
dimensions_of d = do
  actions ← dimension_of (codes "actions") d
  locations ← dimension_of (codes "locations") d
  datatypes ← dimension_of (codes "datatypes") d
  privileges ← dimension_of (codes "privileges") d
  Ok (record { actions = actions; locations = locations; datatypes = datatypes; privileges = privileges })

-- how many choices of an action, a location, a datatype and a privilege there are
abbrev pub choice_count : Dimensions → ℕ
choice_count s = extent s.actions * extent s.locations * extent s.datatypes * extent s.privileges

-- what a right with these dimensions has, where it has at most 1,024 atoms
abbrev pub few_choices : {A : Type 0} → Dimensions → A → Result A RightsFault
few_choices s x = if nat_lt 1024 (choice_count s) then Err faults.TooMany else Ok x

-- the right in full with these dimensions
abbrev pub right_with : List ℕ → Dimensions → Option (List ℕ) → List ℕ → RightObject
right_with kind s identifier further = record {
  kind = kind;
  actions = s.actions;
  locations = s.locations;
  datatypes = s.datatypes;
  privileges = s.privileges;
  identifier = identifier;
  further = further;
}

-- each has at most 16 values
pub record AreFew (s : Dimensions) : Type 0 where
  pub actions : extent s.actions ≤ 16
  pub locations : extent s.locations ≤ 16
  pub datatypes : extent s.datatypes ≤ 16
  pub privileges : extent s.privileges ≤ 16

pub record DimensionsFit (s : Dimensions) : Type 0 where
  pub actions : AreUtf8 s.actions
  pub locations : AreUtf8 s.locations
  pub datatypes : AreUtf8 s.datatypes
  pub privileges : AreUtf8 s.privileges
