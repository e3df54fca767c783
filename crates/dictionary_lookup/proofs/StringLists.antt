-- Reading an inner list, and keeping its items up to the first one that has parameters, where all are Strings.
use Rattle.std.proofs.Common.{◌≡◌, ℕ, ◌||◌, ◌&&◌, Bool, true, false, cond, List, [], ◌∷◌, ◌++◌, drop, Option, Some, None, refl, sym, ap, ◌∙◌}
use Rattle.std.specs.List.{list_any}
use Rattle.std.specs.Option.{option_map}
use Rattle.std.proofs.lemmas.List.Folds.{list_all-append}
use Rattle.structured_fields.specs.declared.bare.Bare.{Bare}
use Rattle.structured_fields.specs.declared.fault.FieldFault.{FieldFault}
use Rattle.structured_fields.specs.declared.fault.FieldFault.TheVariants.{NotInGrammar, OutOfMemory}
use Rattle.structured_fields.specs.declared.item.Item.{Item}
use Rattle.structured_fields.specs.declared.item.InnerList.{InnerList}
use Rattle.structured_fields.specs.Named.{value_at}
use Rattle.structured_fields.specs.Reading.{◌>>=◌, Fails, params_at, item_at, items_from, items_at, inner_at}
use Rattle.structured_fields.specs.Strings.{is_any_string, are_strings, holds_string}
use Rattle.structured_fields.proofs.Fronts.{mapped}
use Rattle.dictionary_lookup.specs.declared.string_lists.ItemsSoFar.{ItemsSoFar}
use Rattle.dictionary_lookup.specs.Skipping.{has_parameters, list_read, only_strings, rest_of, strings_read, up_to_parameters, IsNext}
use Rattle.dictionary_lookup.proofs.Behind.{fails_mapped}

abbrev ItemsRead : Type 0
ItemsRead = List Item × List ℕ

-- ---- what is kept

abbrev is_cut : List Item → Bool
is_cut items = list_any has_parameters items

kept_more : (held : List Item) (x : Item)
    → up_to_parameters (held ++ x ∷ []) ≡ cond (is_cut held) (up_to_parameters held) (up_to_parameters held ++ x ∷ [])
kept_more [] x = by (has_parameters x)
  where
    by : (b : Bool) → x ∷ cond b [] [] ≡ x ∷ []
    by true = refl
    by false = refl
kept_more (h ∷ held) x = by (has_parameters h) (is_cut held) (kept_more held x)
  where
    by : (b c : Bool) → up_to_parameters (held ++ x ∷ []) ≡ cond c (up_to_parameters held) (up_to_parameters held ++ x ∷ [])
        → h ∷ cond b [] (up_to_parameters (held ++ x ∷ []))
        ≡ cond (b || c) (h ∷ cond b [] (up_to_parameters held)) (h ∷ cond b [] (up_to_parameters held) ++ x ∷ [])
    by true c again = refl
    by false true again = ap (λ items. h ∷ items) again
    by false false again = ap (λ items. h ∷ items) again

cut_more : (held : List Item) (x : Item) → is_cut (held ++ x ∷ []) ≡ (is_cut held || has_parameters x)
cut_more [] x = by (has_parameters x)
  where
    by : (b : Bool) → (b || false) ≡ b
    by true = refl
    by false = refl
cut_more (h ∷ held) x = by (has_parameters h) (cut_more held x)
  where
    by : (b : Bool) → is_cut (held ++ x ∷ []) ≡ (is_cut held || has_parameters x) → (b || is_cut (held ++ x ∷ [])) ≡ ((b || is_cut held) || has_parameters x)
    by true again = refl
    by false again = again

-- ---- items

-- of the items that were read: whether all are Strings, and, while they are, what is kept and whether one of them has parameters
pub record StringsSoFar (n : ℕ) (kept : List Item) (so_far : ItemsSoFar) (left : List ℕ) (total : Option ItemsRead) : Type 0 where
  pub held : List Item
  pub reads : items_from n held left ≡ total
  pub strings_is : so_far.strings ≡ are_strings held
  pub kept_is : so_far.strings ≡ true → kept ≡ up_to_parameters held
  pub cut_is : so_far.strings ≡ true → so_far.cut ≡ is_cut held

both_true : (a b : Bool) → (a && b) ≡ true → a ≡ true
both_true true b e = refl
both_true false b e = e

strings_more : (held : List Item) (strings now : Bool) (x : Item) → strings ≡ are_strings held → now ≡ (strings && is_any_string x.bare)
    → now ≡ are_strings (held ++ x ∷ [])
strings_more held strings now x is now_is = now_is ∙ by strings (is_any_string x.bare) is refl
  where
    last : (a b : Bool) → (a && (b && true)) ≡ (a && b)
    last true true = refl
    last true false = refl
    last false b = refl

    by : (a b : Bool) → a ≡ are_strings held → is_any_string x.bare ≡ b → (a && b) ≡ are_strings (held ++ x ∷ [])
    by a b h e = sym (list_all-append (λ (i : Item). is_any_string i.bare) held (x ∷ []) ∙ rw (← h, e) (last a b))

-- and of one more
pub one_more : (n m : ℕ) (kept now_kept : List Item) (before after : ItemsSoFar) (t rest : List ℕ) (total : Option ItemsRead) (item : Item)
    → (so_far : StringsSoFar n kept before t total) → items_from m (so_far.held ++ item ∷ []) rest ≡ total
    → IsNext before kept item after now_kept → StringsSoFar m now_kept after rest total
one_more n m kept now_kept before after t rest total item so_far reads next = record {
  held = so_far.held ++ item ∷ [];
  reads = reads;
  strings_is = strings_more so_far.held before.strings after.strings item so_far.strings_is next.strings;
  kept_is = λ all. let were = both_true before.strings (is_any_string item.bare) (sym next.strings ∙ all) in
      next.kept_is were ∙ rw (so_far.kept_is were, so_far.cut_is were) (sym (kept_more so_far.held item));
  cut_is = λ all. let were = both_true before.strings (is_any_string item.bare) (sym next.strings ∙ all) in
      next.cut were ∙ rw (so_far.cut_is were) (sym (cut_more so_far.held item));
}

-- an item is passed over
pub is_passed : (before : ItemsSoFar) (kept : List Item) (t rest : List ℕ) → before.strings ≡ false → rest_of (item_at t) ≡ Some rest
    → (item : Item) × (item_at t ≡ Some (item, rest)) × IsNext before kept item before kept
is_passed before kept t rest one_is_not passes =
    let there : (x : Item × List ℕ) × (item_at t ≡ Some x) × (x.1 ≡ rest) = mapped (λ (x : Item × List ℕ). x.1) (item_at t) rest passes in (
      there.0.0,
      there.1 ∙ ap (λ (r : List ℕ). Some (there.0.0, r)) there.2,
      record {
        strings = one_is_not ∙ rw one_is_not refl;
        kept_is = λ were. absurd (false_true (sym one_is_not ∙ were));
        cut = λ were. absurd (false_true (sym one_is_not ∙ were));
      },
    )
  where
    false_true : false ≡ true → ⊥
    false_true e = absurd cc

-- what is answered of them
pub all_read : (n : ℕ) (kept : List Item) (before : ItemsSoFar) (t u v : List ℕ) (o : Option (List Item)) (total : Option ItemsRead)
    → (so_far : StringsSoFar n kept before t total) → total ≡ Some (so_far.held, drop 1 u)
    → v ≡ drop 1 u → (before.strings ≡ true → o ≡ Some kept) → (before.strings ≡ false → o ≡ None) → option_map strings_read total ≡ Some (o, v)
all_read n kept before t u v o total so_far total_is v_is all_are one_is_not = rw (total_is, v_is) (by before.strings refl)
  where
    by : (b : Bool) → before.strings ≡ b → Some (strings_read (so_far.held, drop 1 u)) ≡ Some (o, drop 1 u)
    by true t = rw (sym so_far.strings_is, t, all_are t, so_far.kept_is t) refl
    by false t = rw (sym so_far.strings_is, t, one_is_not t) refl

-- ---- the inner list

abbrev Params : Type 0
Params = List (List ℕ × Bare) × List ℕ

abbrev with_params : List (List ℕ × Bare) → List Item → InnerList
with_params params items = record { items = items; params = params }

pub items_fail : (name s : List ℕ) (e : FieldFault) (t : List ℕ) → Fails e (option_map strings_read (items_at t))
    → Fails e (option_map (list_read name s) (inner_at t))
unfolding inner_at
items_fail name s OutOfMemory t h = tt
items_fail name s NotInGrammar t h = let none : items_at t ≡ None = fails_mapped strings_read NotInGrammar (items_at t) h in rw none refl

module _ (name s t : List ℕ) (items : Option (List Item)) (rest : List ℕ) (read : option_map strings_read (items_at t) ≡ Some (items, rest)) where
  there : (x : ItemsRead) × (items_at t ≡ Some x) × (strings_read x ≡ (items, rest))
  there = mapped strings_read (items_at t) (items, rest) read

  ends : there.0.1 ≡ rest
  ends = ap (λ (x : Option (List Item) × List ℕ). x.1) there.2

  pub params_fail : (e : FieldFault) → Fails e (params_at rest) → Fails e (option_map (list_read name s) (inner_at t))
  unfolding inner_at
  params_fail OutOfMemory h = tt
  params_fail NotInGrammar h = let none : params_at there.0.1 ≡ None = ap params_at ends ∙ h in rw (there.1, none) refl

  pub list_is : (params : List (List ℕ × Bare)) (u : List ℕ) → params_at rest ≡ Some (params, u)
      → option_map (list_read name s) (inner_at t)
      ≡ Some ((option_map (with_params params) items, holds_string s (value_at params name)), u)
  unfolding inner_at
  list_is params u h =
      let found : params_at there.0.1 ≡ Some (params, u) = ap params_at ends ∙ h in
      rw (there.1, found) (ap (λ (o : Option InnerList). Some ((o, holds_string s (value_at params name)), u)) made)
    where
      by : (b : Bool) (is : List Item) → cond b (Some (with_params params is)) None ≡ option_map (with_params params) (cond b (Some is) None)
      by true is = refl
      by false is = refl

      made : only_strings there.0.0 (with_params params (up_to_parameters there.0.0)) ≡ option_map (with_params params) items
      made = by (are_strings there.0.0) (up_to_parameters there.0.0) ∙ ap (λ (x : Option (List Item) × List ℕ). option_map (with_params params) x.0) there.2
