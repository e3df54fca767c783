-- The size of all asked rights.
use Rattle.std.proofs.Common.{◌≡◌, ◌∙◌, ℕ, ◌+◌, List, [], ◌∷◌, ◌++◌, map, nat_lt, ap, arith}
use Rattle.std.proofs.lemmas.Bool.Decides.{nat_tests}
use Rattle.json_objects.specs.Objects.{items}
use Rattle.json_objects.specs.Sizes.{capped, items_size}
use Rattle.json_objects.proofs.Lengths.{capped-add, capped-add_right}
use Rattle.gnap_model.specs.declared.objects.Ask.{Ask}
use Rattle.gnap_model.specs.declared.rights.Right.{Right}
use Rattle.gnap_model.specs.Asked.{asked_rights}
use Rattle.access_rights.specs.Printing.{right_data}

items_size-append : (xs ys : List Right)
    → items_size (items (map right_data (xs ++ ys))) ≡ items_size (items (map right_data xs)) + items_size (items (map right_data ys))
items_size-append [] ys = omega arith
items_size-append (x ∷ xs) ys = let r = items_size-append xs ys in omega (arith, r)

-- one ask more
pub asked_size-next : (size : ℕ) (ask : Ask) (rest : List Ask)
    → capped (capped (size + capped (items_size (items (map right_data ask.rights)))) + items_size (items (map right_data (asked_rights rest))))
    ≡ capped (size + items_size (items (map right_data (asked_rights (ask ∷ rest)))))
asked_size-next size ask rest =
    let a = items_size (items (map right_data ask.rights)) in
    let b = items_size (items (map right_data (asked_rights rest))) in
    ap (λ n. capped (n + b)) (capped-add_right size a) ∙ capped-add (size + a) b
    ∙ ap capped (let both = items_size-append ask.rights (asked_rights rest) in omega (arith, both))

pub nat_lt-capped : (n : ℕ) → nat_lt 4096 (capped n) ≡ nat_lt 4096 n
nat_lt-capped n = grind (arith, nat_tests)
