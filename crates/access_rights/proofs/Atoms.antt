-- Tests of all atoms of a right, dimension by dimension.
use Rattle.std.proofs.Common.{◌≡◌, Bool, true, false, ◌&&◌, ◌||◌, List, [], ◌∷◌, map, arith, refl, sym, ap, ◌∙◌, Option, Some, None}
use Rattle.std.specs.List.{list_any, list_all, flat_map}
use Rattle.std.proofs.lemmas.List.Folds.{list_any-append, list_all-append, list_all-map}
use Rattle.gnap_model.specs.Common.{Text, same_text, same_option}
use Rattle.gnap_model.specs.declared.rights.Right.{Right}
use Rattle.gnap_model.specs.declared.rights.RightObject.{RightObject}
use Rattle.gnap_model.specs.Rights.{Atom, right_atoms, object_atoms, values_of, same_atom, covers}
use Rattle.gnap_model.specs.Rights.Atom.{Name}
use Rattle.access_rights.specs.Inclusion.{has_atom, atom_at, covers_object}

-- ---- all and any over flat_map

flat_all : {A B : Type 0} (p : B → Bool) (f : A → List B) (xs : List A) → list_all p (flat_map f xs) ≡ list_all (λ x. list_all p (f x)) xs
flat_all p f [] = refl
flat_all p f (x ∷ xs) = list_all-append p (f x) (flat_map f xs) ∙ ap (λ b. list_all p (f x) && b) (flat_all p f xs)

flat_any : {A B : Type 0} (p : B → Bool) (f : A → List B) (xs : List A) → list_any p (flat_map f xs) ≡ list_any (λ x. list_any p (f x)) xs
flat_any p f [] = refl
flat_any p f (x ∷ xs) = list_any-append p (f x) (flat_map f xs) ∙ ap (λ b. list_any p (f x) || b) (flat_any p f xs)

map_any : {A B : Type 0} (p : B → Bool) (f : A → B) (xs : List A) → list_any p (map f xs) ≡ list_any (λ x. p (f x)) xs
map_any p f [] = refl
map_any p f (x ∷ xs) = ap (λ b. p (f x) || b) (map_any p f xs)

pub all_same : {A : Type 0} (p q : A → Bool) (xs : List A) → ((x : A) → p x ≡ q x) → list_all p xs ≡ list_all q xs
all_same p q [] e = refl
all_same p q (x ∷ xs) e = rw (e x) (ap (λ b. q x && b) (all_same p q xs e))

pub any_same : {A : Type 0} (p q : A → Bool) (xs : List A) → ((x : A) → p x ≡ q x) → list_any p xs ≡ list_any q xs
any_same p q [] e = refl
any_same p q (x ∷ xs) e = rw (e x) (ap (λ b. q x || b) (any_same p q xs e))

-- ---- what is wanted

pub covers_each : (granted wanted : List Right) → list_all (λ r. list_all (has_atom granted) (right_atoms r)) wanted ≡ covers granted wanted
covers_each granted wanted = sym (flat_all (has_atom granted) right_atoms wanted)

pub object_all : (granted : List Right) (o : RightObject) → covers_object granted o ≡ list_all (has_atom granted) (object_atoms o)
object_all granted o =
    let p = has_atom granted in
    sym (flat_all p _ (values_of o.actions)
    ∙ all_same _ _ (values_of o.actions) (λ a. flat_all p _ (values_of o.locations)
    ∙ all_same _ _ (values_of o.locations) (λ l. flat_all p _ (values_of o.datatypes)
    ∙ all_same _ _ (values_of o.datatypes) (λ d. list_all-map p (λ v. atom_at o a l d v) (values_of o.privileges)))))

-- ---- what is granted

pub has_each : (a : Atom) (granted : List Right) → list_any (λ r. list_any (same_atom a) (right_atoms r)) granted ≡ has_atom granted a
has_each a granted = sym (flat_any (same_atom a) right_atoms granted)

pub some_of : (v : Text) (ts : List Text) → list_any (same_option (Some v)) (map Some ts) ≡ list_any (same_text v) ts
some_of v ts = map_any (same_option (Some v)) Some ts

pub none_of : (ts : List Text) → list_any (same_option None) (map Some ts) ≡ false
none_of [] = refl
none_of (t ∷ ts) = none_of ts

no_part : (n : Text) (h : Option Text → Atom) (xs : List (Option Text)) → ((x : Option Text) → same_atom (Name n) (h x) ≡ false)
    → list_any (same_atom (Name n)) (map h xs) ≡ false
no_part n h [] e = refl
no_part n h (x ∷ xs) e = rw (e x) (no_part n h xs e)

none_any : {A : Type 0} (p : A → Bool) (xs : List A) → ((x : A) → p x ≡ false) → list_any p xs ≡ false
none_any p [] e = refl
none_any p (x ∷ xs) e = rw (e x) (none_any p xs e)

pub no_name : (n : Text) (o : RightObject) → list_any (same_atom (Name n)) (object_atoms o) ≡ false
no_name n o =
    let p = same_atom (Name n) in
    flat_any p _ (values_of o.actions)
    ∙ none_any _ (values_of o.actions) (λ a. flat_any p _ (values_of o.locations)
    ∙ none_any _ (values_of o.locations) (λ l. flat_any p _ (values_of o.datatypes)
    ∙ none_any _ (values_of o.datatypes) (λ d. no_part n (λ v. atom_at o a l d v) (values_of o.privileges) (λ x. refl))))

-- a test that the element doesn't change comes out of `any`, before or after
before : {A : Type 0} (c : Bool) (p : A → Bool) (xs : List A) (v : Bool) → list_any p xs ≡ v → list_any (λ x. c && p x) xs ≡ (c && v)
before true p xs v e = e
before false p xs v e = none_any (λ x. false) xs (λ x. refl)

after : {A : Type 0} (p : A → Bool) (c : Bool) (xs : List A) → list_any (λ x. p x && c) xs ≡ (list_any p xs && c)
after p c [] = refl
after p c (x ∷ xs) = rw (after p c xs) (over (p x) c (list_any p xs))
  where
    over : (a c b : Bool) → ((a && c) || (b && c)) ≡ ((a || b) && c)
    over true true b = refl
    over true false true = refl
    over true false false = refl
    over false c b = refl

-- the value is among those of the dimension
abbrev pub among : Option Text → Option (List Text) → Bool
among v dimension = list_any (same_option v) (values_of dimension)

arranged : (k a l d p i f : Bool) → (k && (a && (l && (d && (p && (i && (f && true))))))) ≡ (k && i && f && a && l && d && p)
arranged false a l d p i f = refl
arranged true a l d p i f = grind arith

pub object_any : (o g : RightObject) (a l d p : Option Text) → list_any (same_atom (atom_at o a l d p)) (object_atoms g)
    ≡ (same_text o.kind g.kind && same_option o.identifier g.identifier && same_text o.further g.further && among a g.actions && among l g.locations
    && among d g.datatypes && among p g.privileges)
object_any o g a l d p =
    let test = same_atom (atom_at o a l d p) in
    let k = same_text o.kind g.kind in
    let e = same_option o.identifier g.identifier && (same_text o.further g.further && true) in
    let in_privileges = λ (x y z : Option Text). map_any test (λ v. atom_at g x y z v) (values_of g.privileges) ∙
    before k _ (values_of g.privileges) _
    (before (same_option a x) _ (values_of g.privileges) _
    (before (same_option l y) _ (values_of g.privileges) _ (before (same_option d z) _ (values_of g.privileges) _
    (after (same_option p) e (values_of g.privileges))))) in
    flat_any test _ (values_of g.actions)
    ∙ any_same _ _ (values_of g.actions) (λ x. flat_any test _ (values_of g.locations)
    ∙ any_same _ _ (values_of g.locations) (λ y. flat_any test _ (values_of g.datatypes)
    ∙ any_same _ _ (values_of g.datatypes) (λ z. in_privileges x y z)
    ∙ before k _ (values_of g.datatypes) _ (before (same_option a x) _ (values_of g.datatypes) _ (before (same_option l y) _ (values_of g.datatypes) _
    (after (same_option d) (among p g.privileges && e) (values_of g.datatypes)))))
    ∙ before k _ (values_of g.locations) _
    (before (same_option a x) _ (values_of g.locations) _ (after (same_option l) (among d g.datatypes && (among p g.privileges && e)) (values_of g.locations))))
    ∙ before k _ (values_of g.actions) _
    (after (same_option a) (among l g.locations && (among d g.datatypes && (among p g.privileges && e))) (values_of g.actions))
    ∙ arranged k (among a g.actions) (among l g.locations) (among d g.datatypes) (among p g.privileges) (same_option o.identifier g.identifier)
    (same_text o.further g.further)
