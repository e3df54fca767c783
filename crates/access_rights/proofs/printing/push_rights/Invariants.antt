use Rattle.std.proofs.Common.{◌≡◌, ◌≤◌, ◌++◌, length, drop, map, take}
use Rattle.std.specs.List.{AllByRecursion}
use Rattle.serde_json.specs.View.{view}
use Rattle.access_rights.specs.Fits.{Fits}
use Rattle.access_rights.specs.Printing.{right_data}
use Rattle.access_rights.proofs.printing.push_rights.Given as goal

abbrev pub invariant-loop-right : goal.invariant-loop-right
invariant-loop-right l = record {
  made : map view l.items.items ++ map right_data (drop l.right-index l.right-items) ≡ map view l.fn.items.items ++ map right_data l.rights;
  kept : take (length l.fn.items.items) l.items.items ≡ l.fn.items.items;
  longer : length l.fn.items.items ≤ length l.items.items;
  fits : AllByRecursion Fits (drop l.right-index l.right-items);
}
