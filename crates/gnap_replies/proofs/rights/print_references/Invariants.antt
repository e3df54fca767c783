use Rattle.std.proofs.Common.{◌≡◌, true, take, drop, map}
use Rattle.std.specs.List.{AllByRecursion, list_all}
use Rattle.access_rights.specs.Fits.{Fits}
use Rattle.access_rights.specs.Printing.{right_data}
use Rattle.gnap_replies.specs.Printing.{Printed, is_reference, then_items, HasPrinted}
use Rattle.gnap_replies.proofs.rights.print_references.Given as goal

abbrev pub invariant-loop-right : goal.invariant-loop-right
invariant-loop-right l = record {
  printed : (p : Printed) → HasPrinted l.fn.out p → HasPrinted l.out (then_items p (map right_data (take l.right-index l.rights)));
  references : list_all is_reference (drop l.right-index l.rights) ≡ true;
  fit : AllByRecursion Fits (drop l.right-index l.rights);
}
