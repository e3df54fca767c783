use Rattle.std.proofs.Common.{◌≡◌, List, ℕ, take}
use Rattle.gnap_model.specs.KeyPlaces.{place_in, place_of}
use Rattle.gnap_model.proofs.key_rows.places_of.Given as goal

abbrev pub invariant-loop-i : goal.invariant-loop-i
invariant-loop-i l = (q : List ℕ) → place_in l.places q ≡ place_of (take l.i l.rows) q
