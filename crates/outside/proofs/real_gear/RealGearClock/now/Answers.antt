use Rattle.std.proofs.Common.{ℕ, ◌≤◌, List, [], ◌∷◌, ◌++◌, All, map, sym, subst, arith}
use Rattle.std.proofs.lemmas.List.{map-append}
use Rattle.std.proofs.lemmas.List.Elements.{All-push, All-weaker}
use Rattle.outside.proofs.real_gear.RealGearClock.now.Goals as goal

-- a moment more, which no earlier one exceeds
pushed : (given : List (ℕ × Unit {0})) (last now : ℕ) → last ≤ now → All (λ m. m ≤ last) (map (λ pair. pair.0) given)
    → All (λ m. m ≤ now) (map (λ pair. pair.0) (given ++ (now, tt) ∷ []))
pushed given last now later all =
    subst (All (λ m. m ≤ now)) (sym (map-append (λ pair. pair.0) given ((now, tt) ∷ [])))
    (All-push (λ m. m ≤ now) (map (λ pair. pair.0) given) now
    (All-weaker (λ m. m ≤ last) (λ m. m ≤ now) (λ m within. omega (arith, within, later)) (map (λ pair. pair.0) given) all) (omega arith))

pub invariant_of-self-clause-later : goal.invariant_of-self-clause-later
invariant_of-self-clause-later g c =
    let s = c.args.self.now in
    let now = c.moment_after-self.result in
    subst (λ (items : List (ℕ × Unit {0})). All (λ m. m ≤ now) (map (λ pair. pair.0) items)) (sym c.and-self.ensures)
    (pushed s.moments.items s.moment now c.moment_after-self.ensures.later s.later)
