-- How many items there are.
use Rattle.std.proofs.Common.{◌≡◌, ◌<◌, ◌≤◌, ◌+◌, ℕ, List, [], ◌∷◌, length, refl, ap, sym, ◌∙◌, Ok, Err, arith, Bool, true, false}
use Rattle.std.specs.Prelude.{nat_lt, codes, if◌then◌else◌, Result}
use Rattle.std.proofs.lemmas.Bool.Decides.{nat_tests}
use Rattle.serde_json.specs.Data.{Items, item}
use Rattle.serde_json.specs.declared.value.Value.{Value}
use Rattle.serde_json.specs.View.{view, items_view}
use Rattle.gnap_objects.specs.declared.fault.ObjectFault.{ObjectFault}
use Rattle.gnap_objects.specs.declared.fault.ObjectFault.TheVariants as faults
use Rattle.resource_server.specs.RsSetups.{count_of, counted_items}

pub count_of_items : (vs : List Value) → count_of (items_view vs) ≡ length vs
count_of_items [] = refl
count_of_items (v ∷ vs) = ap (λ n. n + 1) (count_of_items vs) ∙ omega arith

pub counted_none : (vs : List Value) → length vs ≡ 0 → counted_items (items_view vs) ≡ Err (faults.Wrong (codes "routes"))
counted_none [] none = refl
counted_none (v ∷ vs) none = absurd (omega (arith, none))

by_test : (ds : Items) (b : Bool) (n : ℕ) → nat_lt 1024 n ≡ b → n ≤ 1024
    → ◌≡◌ {A = Result Items ObjectFault} (if b then Err (faults.TooMany (codes "routes")) else Ok ds) (Ok ds)
by_test ds true n e few = absurd (grind (arith, nat_tests, e, few))
by_test ds false n e few = refl

over_test : (ds : Items) (b : Bool) (n : ℕ) → nat_lt 1024 n ≡ b → 1024 < n
    → ◌≡◌ {A = Result Items ObjectFault} (if b then Err (faults.TooMany (codes "routes")) else Ok ds) (Err (faults.TooMany (codes "routes")))
over_test ds true n e many = refl
over_test ds false n e many = absurd (grind (arith, nat_tests, e, many))

pub counted_few : (vs : List Value) → 0 < length vs → length vs ≤ 1024 → counted_items (items_view vs) ≡ Ok (items_view vs)
counted_few [] some few = absurd (omega (arith, some))
counted_few (v ∷ vs) some few =
    let same = count_of_items (v ∷ vs) in
    by_test (items_view (v ∷ vs)) _ _ refl (omega (arith, same, few))

pub counted_many : (vs : List Value) → 1024 < length vs → counted_items (items_view vs) ≡ Err (faults.TooMany (codes "routes"))
counted_many [] many = absurd (omega (arith, many))
counted_many (v ∷ vs) many =
    let same = count_of_items (v ∷ vs) in
    over_test (items_view (v ∷ vs)) _ _ refl (omega (arith, same, many))
