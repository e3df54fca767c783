-- Reading JSON values, part by part, up to the first fault.
use Rattle.std.specs.Prelude.{◌≡◌, ◌⊎◌, List, [], ◌∷◌, Option, Some, None, Result, Ok, Err}
use Rattle.serde_json.specs.Data.{Data, Items, no_items, item}

-- what is read next, after the parts before it were read; the first fault stands
infixl 10 ◌>>=◌
abbrev pub ◌>>=◌ : {E A B : Type 0} → Result A E → (A → Result B E) → Result B E
(Ok x) >>= f = f x
(Err e) >>= f = Err e

-- what is there; the fault e where nothing is
abbrev pub or_fault : {E A : Type 0} → E → Option A → Result A E
or_fault e None = Err e
or_fault e (Some x) = Ok x

-- each item, up to the first fault
abbrev pub each : {E A : Type 0} → (Data → Result A E) → Items → Result (List A) E
each reading no_items = Ok []
each reading (item d ds) = reading d >>= λ x. each reading ds >>= λ xs. Ok (x ∷ xs)

-- the fault is that of the reading, or want of memory, which may come at any time
abbrev pub Fails : {E Y : Type 0} → E → E → Result Y E → Type 0
Fails memory e reading = (e ≡ memory) ⊎ (reading ≡ Err e)

-- A reader answers what the reading is, seen by view, or that memory ran out. Its fault for want of memory is `memory`.
abbrev pub Gives : {E X Y : Type 0} → E → (X → Y) → Result X E → Result Y E → Type 0
Gives memory view (Ok x) reading = reading ≡ Ok (view x)
Gives memory view (Err e) reading = Fails memory e reading
