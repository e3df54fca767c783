-- What was read of the parts of a whole that was read.
use Rattle.std.proofs.Common.{◌≡◌, ℕ, Bool, true, false, List, Result, Ok, Err, Option, Some, None, refl}
use Rattle.std.specs.Prelude.{if◌then◌else◌}
use Rattle.json_objects.specs.Reading.{◌>>=◌}
use Rattle.gnap_objects.specs.declared.fault.ObjectFault.{ObjectFault}
use Rattle.gnap_objects.specs.Reading.{none_unknown}
use Rattle.gnap_objects.specs.Setups.{in_setup, in_key}

pub bind_ok : {E A B : Type 0} (r : Result A E) (f : A → Result B E) (y : B) → (r >>= f) ≡ Ok y → (x : A) × (r ≡ Ok x) × (f x ≡ Ok y)
bind_ok (Ok x) f y is = (x, refl, is)
bind_ok (Err e) f y is = absurd cc

pub chosen_ok : {E A : Type 0} (b : Bool) (e : E) (x y : A) → (if b then Err e else Ok x) ≡ Ok y → x ≡ y
chosen_ok true e x y is = absurd cc
chosen_ok false e x y is = cc

pub checked_ok : {A : Type 0} (b : Bool) (e : ObjectFault) (x y : A) → (if b then Ok x else Err e) ≡ Ok y → (b ≡ true) × (x ≡ y)
checked_ok true e x y is = (refl, cc)
checked_ok false e x y is = absurd cc

pub others_ok : {A : Type 0} (o : Option (List ℕ)) (x y : A) → none_unknown o x ≡ Ok y → x ≡ y
others_ok None x y is = cc
others_ok (Some name) x y is = absurd cc

pub setup_ok : {A : Type 0} (r : Result A ObjectFault) (y : A) → in_setup r ≡ Ok y → r ≡ Ok y
setup_ok (Ok x) y is = cc
setup_ok (Err e) y is = absurd cc

pub key_ok : {A : Type 0} (place : ℕ) (r : Result A ObjectFault) (y : A) → in_key place r ≡ Ok y → r ≡ Ok y
key_ok place (Ok x) y is = cc
key_ok place (Err e) y is = absurd cc
