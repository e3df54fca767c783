-- Where keys are found by their ids.
use Rattle.std.specs.Prelude.{ℕ, suc, ◌≡◌, List, [], ◌∷◌, option_map, if◌then◌else◌}
use Rattle.std.specs.declared.option.Option.{Option}
use Rattle.std.specs.declared.option.Option.TheVariants.{None, Some}
use Rattle.std.specs.Ordering.{nat_cmp}
use Rattle.std.specs.Cmp.Lexicographic.{slice_cmp}
use Rattle.std.specs.Global.{Vec}
use Rattle.std.specs.BTreeMap.{BTreeMap, get_by}
use Rattle.gnap_model.specs.Common.{Text, same_text}
use Rattle.gnap_model.specs.declared.objects.KeyRow.{KeyRow}

-- the place of the first key with an id
abbrev pub place_of : List KeyRow → Text → Option ℕ
place_of [] id = None
place_of (row ∷ rows) id = if same_text row.id id then Some 0 else option_map suc (place_of rows id)

-- the place that is noted for an id
abbrev pub place_in : BTreeMap (Vec ℕ) ℕ → Text → Option ℕ
place_in places id = get_by (λ key. slice_cmp nat_cmp id key.items) places

-- the place of each id is noted
abbrev pub Finds : BTreeMap (Vec ℕ) ℕ → List KeyRow → Type 0
Finds places rows = (id : Text) → place_in places id ≡ place_of rows id
