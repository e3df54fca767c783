-- Reading the items of an array one after the other, as a loop does.
use Rattle.std.proofs.Common.{List, ◌++◌, Result, Ok}
use Rattle.json_objects.specs.Reading.{◌>>=◌}

-- what was read before, and what is still read
abbrev pub with_front : {E A : Type 0} → List A → Result (List A) E → Result (List A) E
with_front front read = read >>= λ xs. Ok (front ++ xs)
