use Rattle.std.proofs.Common.{◌≡◌, take}
use Rattle.std.specs.List.{fold}
use Rattle.http_edge.specs.Steps.{next_line_place}
use Rattle.http_edge.proofs.places.line_place.Given as goal

abbrev pub invariant-loop-c : goal.invariant-loop-c
invariant-loop-c l = l.place ≡ fold next_line_place l.initial.place (take l.c-index l.bytes)
