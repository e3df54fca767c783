use Rattle.std.proofs.Common.{◌≡◌, ◌+◌, ◌^◌, ◌<◌, drop, map}
use Rattle.std.specs.List.{AllByRecursion}
use Rattle.json_objects.specs.Objects.{items}
use Rattle.json_objects.specs.Sizes.{capped, items_size}
use Rattle.access_rights.specs.Fits.{Fits}
use Rattle.access_rights.specs.Printing.{right_data}
use Rattle.access_rights.proofs.sizes.listed_size.Given as goal

abbrev pub invariant-loop-right : goal.invariant-loop-right
invariant-loop-right l = record {
  size : capped (l.size + items_size (items (map right_data (drop l.right-index l.right-items)))) ≡ capped (items_size (items (map right_data l.rights)));
  bounded : l.size < 2 ^ 64;
  fits : AllByRecursion Fits (drop l.right-index l.right-items);
}
