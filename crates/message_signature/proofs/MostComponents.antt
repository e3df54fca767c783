-- A list that has a signature base names no more components than a message has: six derived ones, and one for each field.
use Rattle.std.proofs.Common.{◌≡◌, ℕ, suc, ◌+◌, ◌≤◌, Bool, true, false, cond, ◌||◌, inl, inr, true≢false, List, [], ◌∷◌, length, map, Option, Some, None, refl, sym, ap, ◌∙◌, arith}
use Rattle.std.specs.Prelude.{codes, is_some}
use Rattle.std.specs.Cmp.{IsEquivalence}
use Rattle.std.specs.List.{AllByRecursion, IsDistinct, list_any}
use Rattle.std.specs.Set.{is_member}
use Rattle.std.specs.Str.{bytes_eq}
use Rattle.std.proofs.lemmas.Bool.{or_cases}
use Rattle.std.proofs.lemmas.Bool.Decides.{nat_tests}
use Rattle.std.proofs.lemmas.Cmp.{nat_list_eq_equiv}
use Rattle.std.proofs.lemmas.List.{length-map}
use Rattle.std.proofs.lemmas.Map.Made.{length-le_from_is_member}
use Rattle.std.proofs.lemmas.Map.Steps.{list_any_congr}
use Rattle.std.proofs.lemmas.Option.{option_and_then_some}
use Rattle.bytes_and_lists.specs.declared.message.Field.{Field}
use Rattle.bytes_and_lists.specs.declared.message.Message.{Message}
use Rattle.structured_fields.specs.declared.bare.Bare.{Bare}
use Rattle.structured_fields.specs.declared.bare.Bare.TheVariants.{Integer, Decimal, Str, Token, Binary, Boolean, Date, Display}
use Rattle.structured_fields.specs.declared.item.Item.{Item}
use Rattle.structured_fields.specs.declared.item.InnerList.{InnerList}
use Rattle.structured_fields.specs.Reading.{or_some}
use Rattle.structured_fields.specs.Strings.{is_string}
use Rattle.structured_fields.proofs.Fronts.{some_is}
use Rattle.message_signature.specs.Components.{begins_with_at, is_upper, field_value, other_value, component}
use Rattle.message_signature.specs.Base.{is_named, name_of, line_of, base_lines, signature_base, covers_too_many}
use Rattle.message_signature.proofs.Fields.{is_some_field}

same : IsEquivalence bytes_eq
same = nat_list_eq_equiv

-- ---- the components that a message may have

abbrev names_of : List Field → List (List ℕ)
names_of fields = map (λ f. f.name) fields

abbrev components_of : List Field → List (List ℕ)
components_of fields =
    codes "@method" ∷ codes "@target-uri" ∷ codes "@authority" ∷ codes "@scheme" ∷ codes "@path" ∷ codes "@query" ∷ names_of fields

-- a field is there exactly where its name is among them
field_named : (name : List ℕ) (fields : List Field) → list_any (λ f. bytes_eq f.name name) fields ≡ is_member bytes_eq (names_of fields) name
field_named name [] = refl
field_named name (f ∷ fields) = rw (same.symm f.name name, field_named name fields) refl

field_there : (name value : List ℕ) (fields : List Field) → other_value name fields ≡ Some value → is_member bytes_eq (names_of fields) name ≡ true
field_there name value fields = by (begins_with_at name || list_any is_upper name)
  where
    by : (b : Bool) → cond b None (field_value name fields) ≡ Some value → is_member bytes_eq (names_of fields) name ≡ true
    by true h = absurd cc
    by false h = sym (field_named name fields) ∙ is_some_field name fields ∙ ap is_some h

-- what has a value is among them
component_there : (m : Message) (base name value : List ℕ) → component m base name ≡ Some value → is_member bytes_eq (components_of m.fields) name ≡ true
unfolding component
component_there m base name value =
    either (bytes_eq name (codes "@method")) _ _
    (either (bytes_eq name (codes "@target-uri")) _ _
    (either (bytes_eq name (codes "@authority")) _ _
    (either (bytes_eq name (codes "@scheme")) _ _
    (either (bytes_eq name (codes "@path")) _ _ (either (bytes_eq name (codes "@query")) _ None (field_there name value m.fields))))))
  where
    either : (b : Bool) (v : List ℕ) (o : Option (List ℕ)) {r : Bool} → (or_some o (other_value name m.fields) ≡ Some value → r ≡ true)
        → or_some (cond b (Some v) o) (other_value name m.fields) ≡ Some value → (b || r) ≡ true
    either true v o f h = refl
    either false v o f h = f h

-- ---- the names of the items

none_among : (test : List ℕ → Bool) (names : List (List ℕ)) → list_any test names ≡ false → AllByRecursion (λ n. test n ≡ false) names
none_among test [] h = tt
none_among test (n ∷ names) h = by (test n) refl h (none_among test names)
  where
    by : (b : Bool) → test n ≡ b → (b || list_any test names) ≡ false → (list_any test names ≡ false → AllByRecursion (λ n. test n ≡ false) names)
        → (test n ≡ false) × AllByRecursion (λ n. test n ≡ false) names
    by true e h again = absurd (true≢false h)
    by false e h again = (e, again h)

-- an item with a name is named by that alone
named_alone : (b : Bare) (params : List (List ℕ × Bare)) (name q : List ℕ) → name_of (record { bare = b; params = params }) ≡ Some name
    → is_string q b ≡ bytes_eq q name
named_alone (Str s) [] name q h = same.symm s q ∙ ap (bytes_eq q) (some_is s name h)
named_alone (Str s) (p ∷ params) name q h = absurd cc
named_alone (Integer n) params name q h = absurd cc
named_alone (Decimal n) params name q h = absurd cc
named_alone (Token s) params name q h = absurd cc
named_alone (Binary s) params name q h = absurd cc
named_alone (Boolean t) params name q h = absurd cc
named_alone (Date n) params name q h = absurd cc
named_alone (Display t) params name q h = absurd cc

-- the items have these names, each once, and each is that of a component
record AreNames (m : Message) (items : List Item) : Type 0 where
  names : List (List ℕ)
  as_many : length names ≡ length items
  distinct : IsDistinct bytes_eq names
  there : (q : List ℕ) → is_member bytes_eq names q ≡ true → is_member bytes_eq (components_of m.fields) q ≡ true
  named : (q : List ℕ) → is_named q items ≡ is_member bytes_eq names q

module _ (m : Message) (base : List ℕ) where
  module _ (item : Item) (items : List Item) (name value : List ℕ) (is : name_of item ≡ Some name) (there : component m base name ≡ Some value)
      (once : is_named name items ≡ false) (rest : AreNames m items) where
    -- one more item in front
    one_more : AreNames m (item ∷ items)
    unfolding IsDistinct
    one_more = record {
      names = name ∷ rest.names;
      as_many = ap suc rest.as_many;
      distinct = (none_among (bytes_eq name) rest.names (sym (rest.named name) ∙ once), rest.distinct);
      there = λ q h. elim (or_cases (bytes_eq q name) (is_member bytes_eq rest.names q) h) [
        | inl is ↦ list_any_congr same q name (components_of m.fields) is ∙ component_there m base name value there
        | inr is ↦ rest.there q is
      ];
      named = λ q. rw (named_alone item.bare item.params name q is, rest.named q) refl;
    }

  with_line : (item : Item) (items : List Item) (line : List ℕ) → line_of m base item items ≡ Some line → AreNames m items → AreNames m (item ∷ items)
  with_line item items line h rest =
      option_and_then_some _ (name_of item) line h (λ name is more.
      option_and_then_some _ (cond (is_named name items) None (component m base name)) line more (λ value there _.
      by name value is (is_named name items) refl there))
    where
      by : (name value : List ℕ) → name_of item ≡ Some name → (b : Bool) → is_named name items ≡ b → cond b None (component m base name) ≡ Some value
          → AreNames m (item ∷ items)
      by name value is true e there = absurd cc
      by name value is false e there = one_more item items name value is there e rest

  names_in : (items : List Item) (lines : List ℕ) → base_lines m base items ≡ Some lines → AreNames m items
  unfolding base_lines IsDistinct
  names_in [] lines h = record { names = []; as_many = refl; distinct = tt; there = λ q h. absurd cc; named = λ q. refl }
  names_in (item ∷ items) lines h =
      option_and_then_some _ (line_of m base item items) lines h (λ line lined rest.
      option_and_then_some _ (base_lines m base items) lines rest (λ more is last.
      with_line item items line lined (names_in items more is)))

  -- names of which no two are the same are no more than those among which they all are
  at_most : (items : List Item) (lines : List ℕ) → base_lines m base items ≡ Some lines → length items ≤ length m.fields + 6
  at_most items lines h =
      let n = names_in items lines h in
      omega (arith, length-le_from_is_member same n.names (components_of m.fields) n.distinct n.there, n.as_many, length-map m.fields (λ (f : Field). f.name))

  pub too_many : (list : InnerList) → covers_too_many m list.items ≡ true → signature_base m base list ≡ None
  unfolding signature_base
  too_many list h = by (base_lines m base list.items) refl
    where
      by : (o : Option (List ℕ)) → base_lines m base list.items ≡ o → signature_base m base list ≡ None
      by (Some lines) e = let most = at_most list.items lines e in absurd (grind (arith, nat_tests))
      by None e = rw e refl
