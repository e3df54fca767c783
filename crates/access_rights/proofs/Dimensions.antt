-- What is read after the dimensions of a right, read together.
use Rattle.std.proofs.Common.{◌≡◌, Result, Ok, Err, refl}
use Rattle.std.specs.Prelude.{codes}
use Rattle.serde_json.specs.Data.{Data}
use Rattle.json_objects.specs.Reading.{◌>>=◌}
use Rattle.access_rights.specs.declared.reading.Dimensions.{Dimensions}
use Rattle.access_rights.specs.declared.reading.RightsFault.{RightsFault}
use Rattle.access_rights.specs.Reading.{dimension_of}
use Rattle.access_rights.specs.Dimensions.{dimensions_of}

after_four : {E A B C : Type 0} (w x y z : Result A E) (make : A → A → A → A → B) (f : B → Result C E)
    → ((w >>= λ a. x >>= λ b. y >>= λ c. z >>= λ d. Ok (make a b c d)) >>= f) ≡ (w >>= λ a. x >>= λ b. y >>= λ c. z >>= λ d. f (make a b c d))
after_four (Err e) x y z make f = refl
after_four (Ok a) (Err e) y z make f = refl
after_four (Ok a) (Ok b) (Err e) z make f = refl
after_four (Ok a) (Ok b) (Ok c) (Err e) make f = refl
after_four (Ok a) (Ok b) (Ok c) (Ok d) make f = refl

pub dimensions_then : {B : Type 0} (d : Data) (f : Dimensions → Result B RightsFault) → (dimensions_of d >>= f)
    ≡ (dimension_of (codes "actions") d >>= λ a. dimension_of (codes "locations") d >>= λ l. dimension_of (codes "datatypes") d >>= λ t.
    dimension_of (codes "privileges") d >>= λ p. f (record { actions = a; locations = l; datatypes = t; privileges = p }))
dimensions_then d f = after_four (dimension_of (codes "actions") d) (dimension_of (codes "locations") d) (dimension_of (codes "datatypes") d)
    (dimension_of (codes "privileges") d) (λ a l t p. record { actions = a; locations = l; datatypes = t; privileges = p }) f
