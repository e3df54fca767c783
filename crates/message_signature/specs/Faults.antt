-- Answers of functions that may fail, and how they stand to what is read.
use Rattle.std.specs.Prelude.{◌≡◌, Bool, if◌then◌else◌, Option, Some, None, Result, Ok, Err}
use Rattle.message_signature.specs.declared.fault.BaseFault.{BaseFault}
use Rattle.message_signature.specs.declared.fault.BaseFault.TheVariants.{Unsupported, OutOfMemory as NoMemory}
use Rattle.message_signature.specs.declared.fault.SigFault.{SigFault}
use Rattle.message_signature.specs.declared.fault.SigFault.TheVariants.{OutOfMemory}

-- the first fault is the answer
infixl 10 ◌>>=◌
abbrev pub ◌>>=◌ : {A B : Type 0} → Result A SigFault → (A → Result B SigFault) → Result B SigFault
(Ok x) >>= f = f x
(Err e) >>= f = Err e

-- the same by its name
abbrev pub and_then : {A B : Type 0} → (A → Result B SigFault) → Result A SigFault → Result B SigFault
and_then f r = r >>= f

-- what is there, or the fault
abbrev pub need : {A : Type 0} → SigFault → Option A → Result A SigFault
need fault (Some x) = Ok x
need fault None = Err fault

-- that it is so, or the fault
abbrev pub must : SigFault → Bool → Result (Unit {0}) SigFault
must fault so = if so then Ok tt else Err fault

-- What a function answered, seen by view, is what is read, unless memory ran out.
abbrev pub Fails : {Y : Type 0} → SigFault → Result Y SigFault → Type 0
Fails OutOfMemory read = Unit {0}
Fails fault read = read ≡ Err fault

abbrev pub Gives : {X Y : Type 0} → (X → Y) → Result X SigFault → Result Y SigFault → Type 0
Gives view (Ok x) read = read ≡ Ok (view x)
Gives view (Err fault) read = Fails fault read

-- the same of what may be absent, where Unsupported says that it is
abbrev pub FailsBase : {Y : Type 0} → BaseFault → Option Y → Type 0
FailsBase Unsupported o = o ≡ None
FailsBase NoMemory o = Unit {0}

abbrev pub GivesBase : {X Y : Type 0} → (X → Y) → Result X BaseFault → Option Y → Type 0
GivesBase view (Ok x) o = o ≡ Some (view x)
GivesBase view (Err fault) o = FailsBase fault o
