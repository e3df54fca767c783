use Rattle.std.proofs.Common.{◌≡◌, drop}
use Rattle.std.specs.List.{AllByRecursion}
use Rattle.serde_json.specs.View.{items_view}
use Rattle.json_objects.specs.Bodies.{AreBodies}
use Rattle.json_objects.specs.Reading.{each}
use Rattle.json_objects.proofs.Loops.{with_front}
use Rattle.access_rights.specs.Fits.{Fits}
use Rattle.access_rights.specs.Reading.{right_of}
use Rattle.access_rights.proofs.reading.each_right.Given as goal

abbrev pub invariant-loop-item : goal.invariant-loop-item
invariant-loop-item l = record {
  read : with_front l.rights (each right_of (items_view (drop l.item-index l.item-items))) ≡ each right_of (items_view l.item-items);
  bodies : AreBodies (items_view (drop l.item-index l.item-items));
  fits : AllByRecursion Fits l.rights;
}
