-- Answers of a rotation that may fail, and how they stand to what is read.
use Rattle.std.specs.Prelude.{◌≡◌, Bool, if◌then◌else◌, Result, Ok, Err}
use Rattle.message_signature.specs.declared.fault.SigFault.{SigFault}
use Rattle.message_signature.specs.declared.fault.SigFault.TheVariants.{OutOfMemory as NoSigMemory}
use Rattle.rotation_checks.specs.declared.fault.RotationFault.{RotationFault}
use Rattle.rotation_checks.specs.declared.fault.RotationFault.TheVariants.{First, Second, NotChained, OutOfMemory}

-- the first fault is the answer
infixl 10 ◌>>=◌
abbrev pub ◌>>=◌ : {A B : Type 0} → Result A RotationFault → (A → Result B RotationFault) → Result B RotationFault
(Ok x) >>= f = f x
(Err e) >>= f = Err e

-- a fault of the first signature, and one of the second
abbrev pub in_first : {A : Type 0} → Result A SigFault → Result A RotationFault
in_first (Ok x) = Ok x
in_first (Err fault) = Err (First fault)

abbrev pub in_second : {A : Type 0} → Result A SigFault → Result A RotationFault
in_second (Ok x) = Ok x
in_second (Err fault) = Err (Second fault)

-- that the second covers the first
abbrev pub must_chain : Bool → Result (Unit {0}) RotationFault
must_chain so = if so then Ok tt else Err NotChained

-- What a function answered, seen by view, is what is read, unless memory ran out.
abbrev pub Fails : {Y : Type 0} → RotationFault → Result Y RotationFault → Type 0
Fails OutOfMemory read = Unit {0}
Fails fault read = read ≡ Err fault

abbrev pub Gives : {X Y : Type 0} → (X → Y) → Result X RotationFault → Result Y RotationFault → Type 0
Gives view (Ok x) read = read ≡ Ok (view x)
Gives view (Err fault) read = Fails fault read

-- a fault of a signature that is told is none of memory
abbrev pub IsToldOf : RotationFault → Type 0
IsToldOf (First NoSigMemory) = ⊥
IsToldOf (Second NoSigMemory) = ⊥
IsToldOf _ = Unit {0}

-- ---- how the code tells them

-- the answer about the first signature, and about the second; want of memory is told as such
abbrev pub told_first : {A : Type 0} → Result A SigFault → Result A RotationFault
told_first (Ok x) = Ok x
told_first (Err NoSigMemory) = Err OutOfMemory
told_first (Err fault) = Err (First fault)

abbrev pub told_second : {A : Type 0} → Result A SigFault → Result A RotationFault
told_second (Ok x) = Ok x
told_second (Err NoSigMemory) = Err OutOfMemory
told_second (Err fault) = Err (Second fault)
