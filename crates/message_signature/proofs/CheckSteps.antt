-- What it takes that a chain of checks gives a value.
use Rattle.std.proofs.Common.{◌≡◌, Bool, true, false, Option, Some, None, Result, Ok, Err, refl}
use Rattle.message_signature.specs.declared.fault.SigFault.{SigFault}
use Rattle.message_signature.specs.Faults.{◌>>=◌, need, must}

-- the value that a step gives, and that what follows gives y
pub record IsBehind {A B : Type 0} (r : Result A SigFault) (f : A → Result B SigFault) (y : B) : Type 0 where
  pub value : A
  pub is : r ≡ Ok value
  pub rest : f value ≡ Ok y

pub step_ok : {A B : Type 0} (r : Result A SigFault) (f : A → Result B SigFault) (y : B) → (r >>= f) ≡ Ok y → IsBehind r f y
step_ok (Ok x) f y e = record { value = x; is = refl; rest = e }
step_ok (Err fault) f y e = absurd cc

-- the same of what has to be there
pub record IsBehindSome {A B : Type 0} (o : Option A) (f : A → Result B SigFault) (y : B) : Type 0 where
  pub value : A
  pub is : o ≡ Some value
  pub rest : f value ≡ Ok y

pub need_ok : {A B : Type 0} (fault : SigFault) (o : Option A) (f : A → Result B SigFault) (y : B) → (need fault o >>= f) ≡ Ok y → IsBehindSome o f y
need_ok fault (Some x) f y e = record { value = x; is = refl; rest = e }
need_ok fault None f y e = absurd cc

pub must_ok : {B : Type 0} (fault : SigFault) (b : Bool) (f : Unit {0} → Result B SigFault) (y : B) → (must fault b >>= f) ≡ Ok y → (b ≡ true) × (f tt ≡ Ok y)
must_ok fault true f y e = (refl, e)
must_ok fault false f y e = absurd cc
