use Rattle.std.proofs.Common.{◌≡◌, take}
use Rattle.std.specs.List.{fold}
use Rattle.http_edge.specs.declared.places.RequestPlace.TheVariants.{BlankLines}
use Rattle.http_edge.specs.Steps.{next_place}
use Rattle.http_edge.proofs.places.ends_in_target.Given as goal

abbrev pub invariant-loop-c : goal.invariant-loop-c
invariant-loop-c l = l.place ≡ fold next_place BlankLines (take l.c-index l.bytes)
