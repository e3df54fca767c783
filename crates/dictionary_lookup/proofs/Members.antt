-- What is made of a member, by its first byte.
use Rattle.std.proofs.Common.{◌≡◌, ℕ, Bool, true, false, List, [], drop, Option, Some, None, refl, ap, ◌∙◌}
use Rattle.std.specs.Option.{option_map}
use Rattle.structured_fields.specs.declared.bare.Bare.{Bare}
use Rattle.structured_fields.specs.declared.bare.Bare.TheVariants.{Boolean}
use Rattle.structured_fields.specs.declared.fault.FieldFault.{FieldFault}
use Rattle.structured_fields.specs.declared.fault.FieldFault.TheVariants.{NotInGrammar, OutOfMemory}
use Rattle.structured_fields.specs.declared.item.Item.{Item}
use Rattle.structured_fields.specs.declared.item.InnerList.{InnerList}
use Rattle.structured_fields.specs.declared.item.Member.{Member}
use Rattle.structured_fields.specs.declared.item.Member.TheVariants.{Item as Single, Inner}
use Rattle.structured_fields.specs.Reading.{◌>>=◌, Fails, begins, bare_at, params_at, item_at, inner_at, member_at, entry_value_at}
use Rattle.structured_fields.proofs.Fronts.{some_is}
use Rattle.dictionary_lookup.specs.Skipping.{rest_of, bare_read, inner_matched, is_match, list_read, member_matched, member_read, single_of, single_read, strings_in}
use Rattle.dictionary_lookup.proofs.Behind.{fails_map, fails_mapped}

abbrev Params : Type 0
Params = List (List ℕ × Bare) × List ℕ

-- ---- something that is made of members

module _ {A : Type 0} (made : Member → A) where
  abbrev made_of : Member × List ℕ → A × List ℕ
  made_of m = (made m.0, m.1)

  abbrev made_of_list : InnerList × List ℕ → A × List ℕ
  made_of_list x = (made (Inner x.0), x.1)

  abbrev made_of_item : Item × List ℕ → A × List ℕ
  made_of_item x = (made (Single x.0), x.1)

  -- without a value it is true
  abbrev truth : Params → Member × List ℕ
  truth p = (Single (record { bare = Boolean true; params = p.0 }), p.1)

  inner_made : (o : Option (InnerList × List ℕ)) → option_map made_of (option_map (λ x. (Inner x.0, x.1)) o) ≡ option_map made_of_list o
  inner_made None = refl
  inner_made (Some x) = refl

  single_made : (o : Option (Item × List ℕ)) → option_map made_of (option_map (λ x. (Single x.0, x.1)) o) ≡ option_map made_of_item o
  single_made None = refl
  single_made (Some x) = refl

  member_list : (t u : List ℕ) → begins 40 t ≡ true → u ≡ drop 1 t → option_map made_of (member_at t) ≡ option_map made_of_list (inner_at u)
  unfolding member_at
  member_list t u h is = rw (h, is) (inner_made (inner_at (drop 1 t)))

  member_item : (t : List ℕ) → begins 40 t ≡ false → option_map made_of (member_at t) ≡ option_map made_of_item (item_at t)
  unfolding member_at
  member_item t h = rw h (single_made (item_at t))

  entry_given : (t u : List ℕ) → begins 61 t ≡ true → u ≡ drop 1 t → option_map made_of (entry_value_at t) ≡ option_map made_of (member_at u)
  unfolding entry_value_at
  entry_given t u h is = rw (h, is) refl

  entry_fails : (e : FieldFault) (t : List ℕ) → begins 61 t ≡ false → Fails e (rest_of (params_at t)) → Fails e (option_map made_of (entry_value_at t))
  unfolding entry_value_at
  entry_fails OutOfMemory t h f = tt
  entry_fails NotInGrammar t h f =
      let none : params_at t ≡ None = fails_mapped (λ (x : Params). x.1) NotInGrammar (params_at t) f in
      rw (h, none) refl

  member_fails : (e : FieldFault) (t : List ℕ) → begins 40 t ≡ false → Fails e (rest_of (item_at t)) → Fails e (option_map made_of (member_at t))
  member_fails OutOfMemory t h f = tt
  member_fails NotInGrammar t h f =
      let none : item_at t ≡ None = fails_mapped (λ (x : Item × List ℕ). x.1) NotInGrammar (item_at t) f in
      member_item t h ∙ rw none refl

  true_made : (o : Option Params) (a : A) (r : List ℕ) → ((p : Params) → made (truth p).0 ≡ a) → rest_of o ≡ Some r
      → option_map made_of (option_map truth o) ≡ Some (a, r)
  true_made None a r is e = absurd cc
  true_made (Some p) a r is e = rw (is p) (ap (λ (u : List ℕ). Some (a, u)) (some_is p.1 r e))

  entry_true : (a : A) (t r : List ℕ) → ((p : Params) → made (truth p).0 ≡ a) → begins 61 t ≡ false → rest_of (params_at t) ≡ Some r
      → option_map made_of (entry_value_at t) ≡ Some (a, r)
  unfolding entry_value_at
  entry_true a t r is h e = rw h (true_made (params_at t) a r is e)

  -- of each item the same
  item_made : (o : Option (Item × List ℕ)) (a : A) (r : List ℕ) → ((i : Item) → made (Single i) ≡ a) → rest_of o ≡ Some r
      → option_map made_of_item o ≡ Some (a, r)
  item_made None a r is e = absurd cc
  item_made (Some x) a r is e = rw (is x.0) (ap (λ (u : List ℕ). Some (a, u)) (some_is x.1 r e))

  any_item : (a : A) (t r : List ℕ) → ((i : Item) → made (Single i) ≡ a) → begins 40 t ≡ false → rest_of (item_at t) ≡ Some r
      → option_map made_of (member_at t) ≡ Some (a, r)
  any_item a t r is h e = member_item t h ∙ item_made (item_at t) a r is e

-- ---- whether it is a list with a parameter, and which

module _ (name s : List ℕ) where
  pub member_is_list : (t u : List ℕ) → begins 40 t ≡ true → u ≡ drop 1 t
      → option_map (member_matched name s) (member_at t) ≡ option_map (inner_matched name s) (inner_at u)
  member_is_list t u h is = member_list (is_match name s) t u h is

  pub member_is_item : (t r : List ℕ) → begins 40 t ≡ false → rest_of (item_at t) ≡ Some r
      → option_map (member_matched name s) (member_at t) ≡ Some (false, r)
  member_is_item t r h e = any_item (is_match name s) false t r (λ i. refl) h e

  pub member_refused : (e : FieldFault) (t : List ℕ) → begins 40 t ≡ false → Fails e (rest_of (item_at t))
      → Fails e (option_map (member_matched name s) (member_at t))
  member_refused e t h f = member_fails (is_match name s) e t h f

  pub entry_is_given : (t u : List ℕ) → begins 61 t ≡ true → u ≡ drop 1 t
      → option_map (member_matched name s) (entry_value_at t) ≡ option_map (member_matched name s) (member_at u)
  entry_is_given t u h is = entry_given (is_match name s) t u h is

  pub entry_is_true : (t r : List ℕ) → begins 61 t ≡ false → rest_of (params_at t) ≡ Some r
      → option_map (member_matched name s) (entry_value_at t) ≡ Some (false, r)
  entry_is_true t r h e = entry_true (is_match name s) false t r (λ p. refl) h e

  pub entry_refused : (e : FieldFault) (t : List ℕ) → begins 61 t ≡ false → Fails e (rest_of (params_at t))
      → Fails e (option_map (member_matched name s) (entry_value_at t))
  entry_refused e t h f = entry_fails (is_match name s) e t h f

  abbrev list_and_match : Member → Option InnerList × Bool
  list_and_match m = (strings_in m, is_match name s m)

  pub read_list : (t u : List ℕ) → begins 40 t ≡ true → u ≡ drop 1 t
      → option_map (member_read name s) (member_at t) ≡ option_map (list_read name s) (inner_at u)
  read_list t u h is = member_list list_and_match t u h is

  pub read_item : (t r : List ℕ) → begins 40 t ≡ false → rest_of (item_at t) ≡ Some r
      → option_map (member_read name s) (member_at t) ≡ Some ((None, false), r)
  read_item t r h e = any_item list_and_match (None, false) t r (λ i. refl) h e

  pub read_refused : (e : FieldFault) (t : List ℕ) → begins 40 t ≡ false → Fails e (rest_of (item_at t))
      → Fails e (option_map (member_read name s) (member_at t))
  read_refused e t h f = member_fails list_and_match e t h f

  pub read_given : (t u : List ℕ) → begins 61 t ≡ true → u ≡ drop 1 t
      → option_map (member_read name s) (entry_value_at t) ≡ option_map (member_read name s) (member_at u)
  read_given t u h is = entry_given list_and_match t u h is

  pub read_true : (t r : List ℕ) → begins 61 t ≡ false → rest_of (params_at t) ≡ Some r
      → option_map (member_read name s) (entry_value_at t) ≡ Some ((None, false), r)
  read_true t r h e = entry_true list_and_match (None, false) t r (λ p. refl) h e

  pub read_entry_refused : (e : FieldFault) (t : List ℕ) → begins 61 t ≡ false → Fails e (rest_of (params_at t))
      → Fails e (option_map (member_read name s) (entry_value_at t))
  read_entry_refused e t h f = entry_fails list_and_match e t h f

pub ruleset member_steps = (member_is_list, member_is_item, member_refused)

pub ruleset entry_steps = (entry_is_given, entry_is_true, entry_refused)

pub ruleset member_read_steps = (read_list, read_item, read_refused)

pub ruleset entry_read_steps = (read_given, read_true, read_entry_refused)

-- ---- the bare item

pub bare_and_params : (t u : List ℕ) (b : Bare) (r : List ℕ) → bare_at t ≡ Some (b, u) → rest_of (params_at u) ≡ Some r
    → option_map bare_read (item_at t) ≡ Some (Some b, r)
unfolding item_at
bare_and_params t u b r read e = rw read (by (params_at u) e)
  where
    by : (o : Option (Params)) → rest_of o ≡ Some r
        → option_map bare_read (o >>= λ p. Some (record { bare = b; params = p.0 }, p.1)) ≡ Some (Some b, r)
    by None e = absurd cc
    by (Some p) e = ap (λ (u : List ℕ). Some (Some b, u)) (some_is p.1 r e)

pub bare_fails : (e : FieldFault) (t : List ℕ) → Fails e (bare_at t) → Fails e (option_map bare_read (item_at t))
unfolding item_at
bare_fails OutOfMemory t h = tt
bare_fails NotInGrammar t h = rw h refl

pub params_fail : (e : FieldFault) (t u : List ℕ) (b : Bare) → bare_at t ≡ Some (b, u) → Fails e (rest_of (params_at u))
    → Fails e (option_map bare_read (item_at t))
unfolding item_at
params_fail OutOfMemory t u b read h = tt
params_fail NotInGrammar t u b read h =
    let none : params_at u ≡ None = fails_mapped (λ (x : Params). x.1) NotInGrammar (params_at u) h in
    rw (read, none) refl

pub ruleset item_single_steps = (bare_and_params, bare_fails, params_fail)

no_single : (name s : List ℕ) (o : Option (InnerList × List ℕ)) (m : Bool) (r : List ℕ) → option_map (inner_matched name s) o ≡ Some (m, r)
    → option_map {U = Option Bare × List ℕ} (λ x. (None, x.1)) o ≡ Some (None, r)
no_single name s None m r e = absurd cc
no_single name s (Some l) m r e = ap (λ (x : Bool × List ℕ). Some (None, x.1)) (some_is (inner_matched name s l) (m, r) e)

pub list_single : (name s t u : List ℕ) (m : Bool) (r : List ℕ) → begins 40 t ≡ true → u ≡ drop 1 t
    → option_map (inner_matched name s) (inner_at u) ≡ Some (m, r) → option_map single_read (member_at t) ≡ Some (None, r)
list_single name s t u m r h is e = member_list single_of t u h is ∙ no_single name s (inner_at u) m r e

pub list_single_fails : (name s : List ℕ) (e : FieldFault) (t u : List ℕ) → begins 40 t ≡ true → u ≡ drop 1 t
    → Fails e (option_map (inner_matched name s) (inner_at u)) → Fails e (option_map single_read (member_at t))
list_single_fails name s OutOfMemory t u h is f = tt
list_single_fails name s NotInGrammar t u h is f =
    let none : inner_at u ≡ None = fails_mapped (inner_matched name s) NotInGrammar (inner_at u) f in
    member_list single_of t u h is ∙ rw none refl

pub item_single : (t : List ℕ) → begins 40 t ≡ false → option_map single_read (member_at t) ≡ option_map bare_read (item_at t)
item_single t h = member_item single_of t h

pub ruleset member_single_steps = (list_single, list_single_fails, item_single)

pub single_given : (t u : List ℕ) → begins 61 t ≡ true → u ≡ drop 1 t → option_map single_read (entry_value_at t) ≡ option_map single_read (member_at u)
single_given t u h is = entry_given single_of t u h is

pub single_true : (t r : List ℕ) → begins 61 t ≡ false → rest_of (params_at t) ≡ Some r
    → option_map single_read (entry_value_at t) ≡ Some (Some (Boolean true), r)
single_true t r h e = entry_true single_of (Some (Boolean true)) t r (λ p. refl) h e

pub single_fails : (e : FieldFault) (t : List ℕ) → begins 61 t ≡ false → Fails e (rest_of (params_at t))
    → Fails e (option_map single_read (entry_value_at t))
single_fails e t h f = entry_fails single_of e t h f

pub ruleset entry_single_steps = (single_given, single_true, single_fails)
