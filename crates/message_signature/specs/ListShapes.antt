-- What the lists have in common that begin with the same label and the same covered components, and what is known of one of them.
use Rattle.std.specs.Prelude.{◌≡◌, ℕ, true, List, ◌++◌, Some}
use Rattle.structured_fields.specs.declared.bare.Bare.{Bare}
use Rattle.structured_fields.specs.declared.item.Item.{Item}
use Rattle.structured_fields.specs.declared.item.InnerList.{InnerList}
use Rattle.structured_fields.specs.Canonical.{params_text, inner_text, AreInRange}
use Rattle.structured_fields.specs.Named.{IsDistinct}
use Rattle.structured_fields.specs.PlainLists.{front_text, one_list}
use Rattle.structured_fields.specs.Reading.{dictionary_of}
use Rattle.structured_fields.specs.Strings.{are_strings}
use Rattle.dictionary_lookup.specs.Skipping.{up_to_parameters}
use Rattle.message_signature.specs.declared.base_template.BaseTemplate.{BaseTemplate}
use Rattle.message_signature.specs.declared.demands.Covering.{Covering}
use Rattle.message_signature.specs.BaseTemplates.{template_of}
use Rattle.message_signature.specs.Demands.{covering_of}

-- with any parameters behind it, the text is a dictionary of one list
abbrev pub IsFrontOf : List ℕ → List ℕ → List Item → Type 0
IsFrontOf front label items = (params : List (List ℕ × Bare)) → AreInRange params → IsDistinct params
    → dictionary_of (front ++ params_text params) ≡ Some (one_list label items params)

-- the text up to the parameters, the label, the template and the covering are those of these covered components, which are Strings without parameters
abbrev pub IsShapeOf : List ℕ → List ℕ → BaseTemplate → Covering → List Item → Type 0
IsShapeOf front label template covering items = (front ≡ front_text label items) × IsFrontOf front label items
    × (are_strings items ≡ true) × (up_to_parameters items ≡ items) × (template_of items ≡ Some template) × (covering ≡ covering_of items)

-- the template and the covering are those of the list's covered components, and this is its canonical text
abbrev pub IsKnownOf : InnerList → BaseTemplate → List ℕ → Covering → Type 0
IsKnownOf list template shown covering = (template_of list.items ≡ Some template) × (shown ≡ inner_text list) × (covering ≡ covering_of list.items)
