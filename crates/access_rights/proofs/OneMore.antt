-- One item more of an array was read, and stands behind those before.
use Rattle.std.proofs.Common.{◌≡◌, List, [], ◌∷◌, ◌++◌, Result, Ok, Err, refl, ap, append_assoc}
use Rattle.std.specs.List.{AllByRecursion}
use Rattle.serde_json.specs.Data.{Data, Items, item}
use Rattle.json_objects.specs.Reading.{◌>>=◌, each}
use Rattle.json_objects.proofs.Loops.{with_front}

regrouped : {E A : Type 0} (front : List A) (x : A) (read : Result (List A) E)
    → with_front (front ++ x ∷ []) read ≡ with_front front (read >>= λ xs. Ok (x ∷ xs))
regrouped front x (Ok xs) = ap Ok (append_assoc front (x ∷ []) xs)
regrouped front x (Err e) = refl

pub each_more : {E A : Type 0} (reading : Data → Result A E) (front more : List A) (x : A) (d : Data) (ds : Items) → reading d ≡ Ok x → more ≡ front ++ x ∷ []
    → with_front more (each reading ds) ≡ with_front front (each reading (item d ds))
each_more reading front more x d ds read is = rw (is, read) (regrouped front x (each reading ds))

pub all_more : {A : Type 0} (P : A → Type 0) (xs : List A) (x : A) → AllByRecursion P xs → P x → AllByRecursion P (xs ++ x ∷ [])
all_more P [] x all one = (one, tt)
all_more P (first ∷ xs) x all one = (all.0, all_more P xs x all.1 one)
