-- The value of a component: that of a derived one, or else of a field.
use Rattle.std.proofs.Common.{◌≡◌, ℕ, Bool, true, false, cond, ◌||◌, List, Option, Some, None, refl}
use Rattle.std.specs.Prelude.{codes}
use Rattle.std.specs.List.{list_any}
use Rattle.std.specs.Option.{option_map}
use Rattle.std.specs.Str.{bytes_eq}
use Rattle.bytes_and_lists.specs.declared.message.Message.{Message}
use Rattle.structured_fields.specs.Reading.{◌>>=◌, or_some}
use Rattle.message_signature.specs.declared.components.DerivedComponent.{DerivedComponent}
use Rattle.message_signature.specs.declared.components.DerivedComponent.TheVariants.{Method, TargetUri, Authority, Scheme, Path, Query}
use Rattle.message_signature.specs.declared.components.CoveredComponent.TheVariants.{Field}
use Rattle.message_signature.specs.BaseTemplates.{derived_named, derived_value, derived_or_field, component_named, covered_value}
use Rattle.message_signature.specs.Components.{begins_with_at, is_upper, field_value, derived, other_value, component}

module _ (m : Message) (base name : List ℕ) where
  -- the value of a derived component is that of the one with the name
  by_name : derived m base name ≡ option_map (derived_value m base) (derived_named name)
  by_name = by (bytes_eq name (codes "@method")) (bytes_eq name (codes "@target-uri")) (bytes_eq name (codes "@authority")) (bytes_eq name (codes "@scheme"))
      (bytes_eq name (codes "@path")) (bytes_eq name (codes "@query"))
    where
      by : (a b c d e f : Bool)
          → cond a (Some (derived_value m base Method)) (cond b (Some (derived_value m base TargetUri)) (cond c (Some (derived_value m base Authority))
          (cond d (Some (derived_value m base Scheme)) (cond e (Some (derived_value m base Path)) (cond f (Some (derived_value m base Query)) None)))))
          ≡ option_map (derived_value m base)
          (cond a (Some Method) (cond b (Some TargetUri) (cond c (Some Authority) (cond d (Some Scheme) (cond e (Some Path) (cond f (Some Query) None))))))
      by true b c d e f = refl
      by false true c d e f = refl
      by false false true d e f = refl
      by false false false true e f = refl
      by false false false false true f = refl
      by false false false false false true = refl
      by false false false false false false = refl

  pub value_of_derived : (d : DerivedComponent) → derived_named name ≡ Some d → component m base name ≡ Some (derived_value m base d)
  unfolding component
  value_of_derived d is = rw (by_name, is) refl

  pub not_derived : derived_named name ≡ None → component m base name ≡ other_value name m.fields
  unfolding component
  not_derived is = rw (by_name, is) refl

  -- the value by the component that is known
  pub known_value : (component_named name >>= covered_value m base) ≡ component m base name
  unfolding component
  known_value = rw by_name (by (derived_named name))
    where
      field : (b : Bool) → (cond b None (Some (Field name)) >>= covered_value m base) ≡ cond b None (field_value name m.fields)
      field true = refl
      field false = refl

      by : (o : Option DerivedComponent) → (derived_or_field o name >>= covered_value m base)
          ≡ or_some (option_map (derived_value m base) o) (other_value name m.fields)
      by (Some d) = refl
      by None = field (begins_with_at name || list_any is_upper name)

pub ruleset component_steps = (value_of_derived, not_derived)
