-- What was read passes the tests that it has passed once more, and a member that was printed is found.
use Rattle.std.proofs.Common.{◌≡◌, ℕ, List, [], ◌∷◌, length, map, Bool, true, false, Option, Some, None, option_map, Result, Ok, Err, nat_lt, refl, ap, subst}
use Rattle.std.specs.Prelude.{if◌then◌else◌, ◌==◌}
use Rattle.serde_json.specs.Data.{Data, string, no_members}
use Rattle.serde_json.specs.Find.{get}
use Rattle.json_objects.specs.Objects.{object_of, items}
use Rattle.json_objects.specs.Reading.{◌>>=◌, each}
use Rattle.json_objects.proofs.Fields.{first_there, field_of, get_member-members_onto}
use Rattle.gnap_objects.specs.declared.fault.ObjectFault.{ObjectFault}
use Rattle.gnap_objects.specs.Reading.{optional, required_text, sized, checked, text_of}

-- ---- chains of readings

pub bind_ok : {E A B : Type 0} (r : Result A E) (f : A → Result B E) (y : B) → (r >>= f) ≡ Ok y → (x : A) × (r ≡ Ok x) × (f x ≡ Ok y)
bind_ok (Ok x) f y is = (x, refl, is)
bind_ok (Err e) f y is = absurd cc

pub same_ok : {E A : Type 0} (x y : A) → ◌≡◌ {A = Result A E} (Ok x) (Ok y) → x ≡ y
same_ok x y is = cc

-- what follows from an equation between values of a type that has no name outside its crate
pub along : {A B : Type 0} {x y : A} → x ≡ y → (f : A → B) → f x ≡ f y
along is f = ap f is

pub carried : {A : Type 0} {x y : A} → x ≡ y → (P : A → Type 0) → P x → P y
carried is P p = subst P is p

-- ---- tests

-- a test that refuses
pub refused_not : {E A : Type 0} (b : Bool) (e : E) (x y : A) → (if b then Err e else Ok x) ≡ Ok y → (b ≡ false) × (x ≡ y)
refused_not true e x y is = absurd cc
refused_not false e x y is = (refl, cc)

-- two tests that refuse
pub twice_not : {E A : Type 0} (b c : Bool) (e f : E) (x y : A) → (if b then Err e else (if c then Err f else Ok x)) ≡ Ok y
    → (b ≡ false) × (c ≡ false) × (x ≡ y)
twice_not true c e f x y is = absurd cc
twice_not false true e f x y is = absurd cc
twice_not false false e f x y is = (refl, refl, cc)

-- a test that accepts
pub accepted : {E A : Type 0} (b : Bool) (e : E) (x y : A) → (if b then Ok x else Err e) ≡ Ok y → (b ≡ true) × (x ≡ y)
accepted true e x y is = (refl, cc)
accepted false e x y is = absurd cc

-- a text of its length is one under whatever member
pub sized_again : (most : ℕ) (name other s t : List ℕ) → sized most name s ≡ Ok t → sized most other t ≡ Ok t
sized_again most name other s t is =
    let parts = twice_not (length s == 0) (nat_lt most (length s)) _ _ s t is in
    subst (λ x. sized most other x ≡ Ok x) parts.2 (rw (parts.0, parts.1) refl)

pub checked_again : {A : Type 0} (test : A → Bool) (name : List ℕ) (x y : A) → checked test name x ≡ Ok y → (x ≡ y) × (checked test name y ≡ Ok y)
checked_again test name x y is =
    let parts = accepted (test x) _ x y is in
    (parts.1, subst (λ z. checked test name z ≡ Ok z) parts.1 (rw parts.0 refl))

pub text_again : (name s : List ℕ) → text_of name (string s) ≡ Ok s
unfolding text_of
text_again name s = refl

pub texts_again : (name : List ℕ) (ss : List (List ℕ)) → each (text_of name) (items (map string ss)) ≡ Ok ss
unfolding text_of
texts_again name [] = refl
texts_again name (s ∷ ss) = rw (texts_again name ss) refl

-- ---- members

pub or_none : (o : Option Data) → first_there o None ≡ o
or_none None = refl
or_none (Some d) = refl

pub found : (k : List ℕ) (fs : List (List ℕ × Option Data)) → get k (object_of fs) ≡ field_of k fs
found k fs = get_member-members_onto k no_members fs refl

pub required_text_again : (name : List ℕ) (e : Data) (s : List ℕ) → get name e ≡ Some (string s) → required_text name e ≡ Ok s
unfolding required_text text_of
required_text_again name e s there = rw there refl

-- what is printed of a member that is there is read as it was
pub optional_again : {A : Type 0} (reading : Data → Result A ObjectFault) (printed : A → Data)
    → ((d : Data) (x : A) → reading d ≡ Ok x → reading (printed x) ≡ Ok x)
    → (o : Option Data) (x : Option A) → optional reading o ≡ Ok x → optional reading (option_map printed x) ≡ Ok x
optional_again reading printed again None x is = let same = same_ok None x is in subst (λ y. optional reading (option_map printed y) ≡ Ok y) same refl
optional_again reading printed again (Some d) x is =
    let read = bind_ok (reading d) _ x is in
    let same = same_ok (Some read.0) x read.2 in
    subst (λ y. optional reading (option_map printed y) ≡ Ok y) same (rw (again d read.0 read.1) refl)
