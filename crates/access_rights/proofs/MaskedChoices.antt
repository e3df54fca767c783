-- Choices of values that share a bit are granted.
use Rattle.std.proofs.Common.{◌≡◌, ◌∙◌, ℕ, ◌+◌, ◌*◌, ◌/◌, ◌%◌, ◌==◌, ◌&&◌, ◌||◌, bit_and, not, cond, Bool, true, false, List, [], ◌∷◌, map, Option, refl, sym, ap, ap₂, arith}
use Rattle.std.specs.List.{list_any, list_all}
use Rattle.std.proofs.Math.Bool.{or-false, or_assoc}
use Rattle.std.proofs.lemmas.Bool.Decides.{nat_tests}
use Rattle.std.proofs.lemmas.List.Folds.{list_all-map}
use Rattle.std.proofs.lemmas.Nat.{and_shr, and_mod}
use Rattle.gnap_model.specs.Common.{Text, same_text, same_option}
use Rattle.gnap_model.specs.declared.rights.Right.{Right}
use Rattle.gnap_model.specs.declared.rights.Right.TheVariants.{Reference, Object}
use Rattle.gnap_model.specs.declared.rights.RightObject.{RightObject}
use Rattle.gnap_model.specs.Rights.{right_atoms, values_of, same_atom}
use Rattle.access_rights.specs.declared.masks.Dimension.TheVariants.{Actions, Locations, Datatypes, Privileges}
use Rattle.access_rights.specs.Inclusion.{has_atom, atom_at, covers_object}
use Rattle.access_rights.specs.Masks.{is_alike, has_value, with_bit, bits_from, mask_of, privileges_meet, datatypes_meet, locations_meet, choices_meet}
use Rattle.access_rights.proofs.Atoms.{all_same, any_same, object_any, has_each, among}

-- ---- bits of both

bit_and-halves : (m n half low : ℕ) → bit_and (m / 2) (n / 2) ≡ half → bit_and (m % 2) (n % 2) ≡ low → bit_and m n ≡ 2 * half + low
bit_and-halves m n half low h l =
    let a : bit_and m n / 2 ≡ half = and_shr m n 1 ∙ h in
    let b : bit_and m n % 2 ≡ low = and_mod m n 1 ∙ l in
    omega (arith, a, b)

even_half : (x : ℕ) → (2 * x) / 2 ≡ x
even_half x = omega arith

even_rest : (x : ℕ) → (2 * x) % 2 ≡ 0
even_rest x = omega arith

odd_half : (x : ℕ) → (2 * x + 1) / 2 ≡ x
odd_half x = omega arith

odd_rest : (x : ℕ) → (2 * x + 1) % 2 ≡ 1
odd_rest x = omega arith

bit_and-with_bit : (x y : ℕ) (b c : Bool) → bit_and (with_bit x b) (with_bit y c) ≡ with_bit (bit_and x y) (b && c)
bit_and-with_bit x y true true = bit_and-halves (2 * x + 1) (2 * y + 1) (bit_and x y) 1 (ap₂ bit_and (odd_half x) (odd_half y))
    (ap₂ bit_and (odd_rest x) (odd_rest y))
bit_and-with_bit x y true false = let e = bit_and-halves (2 * x + 1) (2 * y) (bit_and x y) 0 (ap₂ bit_and (odd_half x) (even_half y))
    (ap₂ bit_and (odd_rest x) (even_rest y)) in omega (arith, e)
bit_and-with_bit x y false true = let e = bit_and-halves (2 * x) (2 * y + 1) (bit_and x y) 0 (ap₂ bit_and (even_half x) (odd_half y))
    (ap₂ bit_and (even_rest x) (odd_rest y)) in omega (arith, e)
bit_and-with_bit x y false false = let e = bit_and-halves (2 * x) (2 * y) (bit_and x y) 0 (ap₂ bit_and (even_half x) (even_half y))
    (ap₂ bit_and (even_rest x) (even_rest y)) in omega (arith, e)

next_and : (alike : Bool) (x y : ℕ) (b c : Bool)
    → bit_and (cond alike (with_bit x b) x) (cond alike (with_bit y c) y) ≡ cond alike (with_bit (bit_and x y) (b && c)) (bit_and x y)
next_and true x y b c = bit_and-with_bit x y b c
next_and false x y b c = refl

bit_and-bits_from : (alike one other : Right → Bool) (rights : List Right) (x y : ℕ)
    → bit_and (bits_from alike one x rights) (bits_from alike other y rights) ≡ bits_from alike (λ r. one r && other r) (bit_and x y) rights
bit_and-bits_from alike one other [] x y = refl
bit_and-bits_from alike one other (r ∷ rights) x y =
    bit_and-bits_from alike one other rights _ _ ∙ ap (λ n. bits_from alike (λ r. one r && other r) n rights) (next_and (alike r) x y (one r) (other r))

-- ---- some bit

some_bit : (x : ℕ) (b : Bool) → not (with_bit x b == 0) ≡ (not (x == 0) || b)
some_bit x true = grind (arith, nat_tests)
some_bit x false = grind (arith, nat_tests)

next_some : (alike : Bool) (x : ℕ) (b c : Bool) → (not (cond alike (with_bit x b) x == 0) || c) ≡ (not (x == 0) || ((alike && b) || c))
next_some true x b c = ap (λ a. a || c) (some_bit x b) ∙ or_assoc (not (x == 0)) b c
next_some false x b c = refl

bits_from-some : (alike has : Right → Bool) (rights : List Right) (x : ℕ)
    → not (bits_from alike has x rights == 0) ≡ (not (x == 0) || list_any (λ r. alike r && has r) rights)
bits_from-some alike has [] x = sym (or-false (not (x == 0)))
bits_from-some alike has (r ∷ rights) x = bits_from-some alike has rights _ ∙ next_some (alike r) x (has r) (list_any (λ r. alike r && has r) rights)

-- ---- a choice of values

abbrev has_all : Option Text → Option Text → Option Text → Option Text → Right → Bool
has_all a l d p r = ((has_value Actions a r && has_value Locations l r) && has_value Datatypes d r) && has_value Privileges p r

arranged : (k a l d p : Bool) → (k && (((a && l) && d) && p)) ≡ (k && a && l && d && p)
arranged false a l d p = refl
arranged true a l d p = refl

in_right : (o : RightObject) (a l d p : Option Text) (r : Right)
    → (is_alike o r && has_all a l d p r) ≡ list_any (same_atom (atom_at o a l d p)) (right_atoms r)
in_right o a l d p (Reference name) = refl
in_right o a l d p (Object g) =
    arranged (same_text o.kind g.kind && same_option o.identifier g.identifier && same_text o.further g.further) (among a g.actions) (among l g.locations)
    (among d g.datatypes) (among p g.privileges)
    ∙ sym (object_any o g a l d p)

choice : (granted : List Right) (o : RightObject) (a l d p : Option Text)
    → not (bit_and (bit_and (bit_and (mask_of granted o Actions a) (mask_of granted o Locations l)) (mask_of granted o Datatypes d))
    (mask_of granted o Privileges p) == 0)
    ≡ has_atom granted (atom_at o a l d p)
choice granted o a l d p =
    let alike = is_alike o in
    ap (λ n. not (bit_and (bit_and n (mask_of granted o Datatypes d)) (mask_of granted o Privileges p) == 0))
    (bit_and-bits_from alike (has_value Actions a) (has_value Locations l) granted 0 0)
    ∙ ap (λ n. not (bit_and n (mask_of granted o Privileges p) == 0))
    (bit_and-bits_from alike (λ r. has_value Actions a r && has_value Locations l r) (has_value Datatypes d) granted 0 0)
    ∙ ap (λ n. not (n == 0)) (bit_and-bits_from alike (λ r. (has_value Actions a r && has_value Locations l r) && has_value Datatypes d r)
    (has_value Privileges p) granted 0 0)
    ∙ bits_from-some alike (has_all a l d p) granted 0
    ∙ any_same (λ r. alike r && has_all a l d p r) (λ r. list_any (same_atom (atom_at o a l d p)) (right_atoms r)) granted (in_right o a l d p)
    ∙ has_each (atom_at o a l d p) granted

privileges_met : (granted : List Right) (o : RightObject) (a l d : Option Text) (ps : List (Option Text))
    → privileges_meet (bit_and (bit_and (mask_of granted o Actions a) (mask_of granted o Locations l)) (mask_of granted o Datatypes d))
    (map (λ v. mask_of granted o Privileges v) ps)
    ≡ list_all (λ p. has_atom granted (atom_at o a l d p)) ps
privileges_met granted o a l d ps = list_all-map _ (λ v. mask_of granted o Privileges v) ps ∙ all_same _ _ ps (λ p. choice granted o a l d p)

datatypes_met : (granted : List Right) (o : RightObject) (a l : Option Text) (ps ds : List (Option Text))
    → datatypes_meet (bit_and (mask_of granted o Actions a) (mask_of granted o Locations l)) (map (λ v. mask_of granted o Datatypes v) ds)
    (map (λ v. mask_of granted o Privileges v) ps)
    ≡ list_all (λ d. list_all (λ p. has_atom granted (atom_at o a l d p)) ps) ds
datatypes_met granted o a l ps ds = list_all-map _ (λ v. mask_of granted o Datatypes v) ds ∙ all_same _ _ ds (λ d. privileges_met granted o a l d ps)

locations_met : (granted : List Right) (o : RightObject) (a : Option Text) (ps ds ls : List (Option Text))
    → locations_meet (mask_of granted o Actions a) (map (λ v. mask_of granted o Locations v) ls) (map (λ v. mask_of granted o Datatypes v) ds)
    (map (λ v. mask_of granted o Privileges v) ps)
    ≡ list_all (λ l. list_all (λ d. list_all (λ p. has_atom granted (atom_at o a l d p)) ps) ds) ls
locations_met granted o a ps ds ls = list_all-map _ (λ v. mask_of granted o Locations v) ls ∙ all_same _ _ ls (λ l. datatypes_met granted o a l ps ds)

pub choices_are_granted : (granted : List Right) (o : RightObject)
    → choices_meet (map (λ v. mask_of granted o Actions v) (values_of o.actions)) (map (λ v. mask_of granted o Locations v) (values_of o.locations))
    (map (λ v. mask_of granted o Datatypes v) (values_of o.datatypes)) (map (λ v. mask_of granted o Privileges v) (values_of o.privileges))
    ≡ covers_object granted o
choices_are_granted granted o = list_all-map _ (λ v. mask_of granted o Actions v) (values_of o.actions)
    ∙ all_same _ _ (values_of o.actions) (λ a. locations_met granted o a (values_of o.privileges) (values_of o.datatypes) (values_of o.locations))
