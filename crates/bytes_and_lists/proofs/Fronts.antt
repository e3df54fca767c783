-- What a list begins with.
use Rattle.std.proofs.Common.{arith, ◌≡◌, ◌∙◌, ◌++◌, ◌≤◌, ℕ, List, length, map, take, drop, ap, sym}
use Rattle.std.proofs.lemmas.List.{take-append-le, take-map, take-append-drop, length-take-le, length-map}

-- Such a list begins with another one's front, with each item mapped.
pub front_mapped : {X : Type 0} (f : X → X) (n m : ℕ) (xs behind : List X) → n ≤ m → m ≤ length xs → take n (map f (take m xs) ++ behind) ≡ map f (take n xs)
front_mapped f n m xs behind within short =
    let long : n ≤ length (take m xs) = let size = length-take-le m xs short in omega (arith, within, size) in
    let same : take n (take m xs) ≡ take n xs = sym (take-append-le n (take m xs) (drop m xs) long) ∙ ap (take n) (take-append-drop m xs) in
    take-append-le n (map f (take m xs)) behind (let size = length-map (take m xs) f in omega (arith, long, size)) ∙ take-map f n (take m xs) ∙ ap (map f) same
