-- What it takes that a chain of checks of both signatures gives a value.
use Rattle.std.proofs.Common.{◌≡◌, Bool, true, false, Result, Ok, Err, refl, ap}
use Rattle.message_signature.specs.declared.fault.SigFault.{SigFault}
use Rattle.rotation_checks.specs.declared.fault.RotationFault.{RotationFault}
use Rattle.rotation_checks.specs.declared.fault.RotationFault.TheVariants.{First, Second, NotChained}
use Rattle.rotation_checks.specs.Faults.{◌>>=◌, in_first, in_second, must_chain}

-- the value that a step gives, and that what follows gives y
pub record IsBehind {A B : Type 0} (r : Result A SigFault) (f : A → Result B RotationFault) (y : B) : Type 0 where
  pub value : A
  pub is : r ≡ Ok value
  pub rest : f value ≡ Ok y

pub first_ok : {A B : Type 0} (r : Result A SigFault) (f : A → Result B RotationFault) (y : B) → (in_first r >>= f) ≡ Ok y → IsBehind r f y
first_ok (Ok x) f y e = record { value = x; is = refl; rest = e }
first_ok (Err fault) f y e = absurd cc

pub second_ok : {A B : Type 0} (r : Result A SigFault) (f : A → Result B RotationFault) (y : B) → (in_second r >>= f) ≡ Ok y → IsBehind r f y
second_ok (Ok x) f y e = record { value = x; is = refl; rest = e }
second_ok (Err fault) f y e = absurd cc

-- a step that gives a value leads on from it
pub first_step : {A B : Type 0} (r : Result A SigFault) (f : A → Result B RotationFault) (x : A) → r ≡ Ok x → (in_first r >>= f) ≡ f x
first_step {A} r f x e = ap (λ (y : Result A SigFault). in_first y >>= f) e

pub second_step : {A B : Type 0} (r : Result A SigFault) (f : A → Result B RotationFault) (x : A) → r ≡ Ok x → (in_second r >>= f) ≡ f x
second_step {A} r f x e = ap (λ (y : Result A SigFault). in_second y >>= f) e

pub chain_step : {B : Type 0} (b : Bool) (f : Unit {0} → Result B RotationFault) → b ≡ true → (must_chain b >>= f) ≡ f tt
chain_step b f e = ap (λ (c : Bool). must_chain c >>= f) e

pub chain_failed : {B : Type 0} (b : Bool) (f : Unit {0} → Result B RotationFault) → b ≡ false → (must_chain b >>= f) ≡ Err NotChained
chain_failed b f e = ap (λ (c : Bool). must_chain c >>= f) e

-- a step that fails is the answer
pub first_failed : {A B : Type 0} (r : Result A SigFault) (f : A → Result B RotationFault) (fault : SigFault) → r ≡ Err fault
    → (in_first r >>= f) ≡ Err (First fault)
first_failed {A} r f fault e = ap (λ (y : Result A SigFault). in_first y >>= f) e

pub second_failed : {A B : Type 0} (r : Result A SigFault) (f : A → Result B RotationFault) (fault : SigFault) → r ≡ Err fault
    → (in_second r >>= f) ≡ Err (Second fault)
second_failed {A} r f fault e = ap (λ (y : Result A SigFault). in_second y >>= f) e

pub chain_ok : {B : Type 0} (b : Bool) (f : Unit {0} → Result B RotationFault) (y : B) → (must_chain b >>= f) ≡ Ok y → (b ≡ true) × (f tt ≡ Ok y)
chain_ok true f y e = (refl, e)
chain_ok false f y e = absurd cc
