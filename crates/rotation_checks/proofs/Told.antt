-- An answer about one of the signatures, as it is told.
use Rattle.std.proofs.Common.{◌≡◌, ap, Result, Ok, Err}
use Rattle.std.specs.Prelude.{IfErr, IfOk}
use Rattle.message_signature.specs.declared.fault.SigFault.{SigFault}
use Rattle.message_signature.specs.declared.fault.SigFault.TheVariants.{OutOfMemory}
use Rattle.message_signature.specs.Faults.{Gives as GivesSignature}
use Rattle.rotation_checks.specs.Faults.{Gives, IsToldOf, in_first, in_second, told_first, told_second}

pub first_gives : {X Y : Type 0} (view : X → Y) (answer : Result X SigFault) (read : Result Y SigFault) → GivesSignature view answer read
    → Gives view (told_first answer) (in_first read)
first_gives view (Ok x) read h = ap in_first h
first_gives view (Err OutOfMemory) read h = tt
first_gives view (Err _) read h = ap in_first h

pub second_gives : {X Y : Type 0} (view : X → Y) (answer : Result X SigFault) (read : Result Y SigFault) → GivesSignature view answer read
    → Gives view (told_second answer) (in_second read)
second_gives view (Ok x) read h = ap in_second h
second_gives view (Err OutOfMemory) read h = tt
second_gives view (Err _) read h = ap in_second h

pub first_told : {X : Type 0} (answer : Result X SigFault) → IfErr (told_first answer) IsToldOf
first_told (Ok x) = tt
first_told (Err OutOfMemory) = tt
first_told (Err _) = tt

pub second_told : {X : Type 0} (answer : Result X SigFault) → IfErr (told_second answer) IsToldOf
second_told (Ok x) = tt
second_told (Err OutOfMemory) = tt
second_told (Err _) = tt

-- what was read, where the answer is that
pub first_is : {X : Type 0} (answer read : Result X SigFault) → GivesSignature (λ x. x) answer read → IfOk (told_first answer) (λ x. read ≡ Ok x)
first_is (Ok x) read h = h
first_is (Err OutOfMemory) read h = tt
first_is (Err _) read h = tt
