use Rattle.std.proofs.Common.{◌≡◌, ◌+◌, ◌^◌, ◌<◌, drop, map}
use Rattle.std.specs.List.{AllByRecursion}
use Rattle.json_objects.specs.Objects.{items}
use Rattle.json_objects.specs.Sizes.{capped, items_size}
use Rattle.gnap_model.specs.Asked.{asked_rights}
use Rattle.access_rights.specs.Printing.{right_data}
use Rattle.gnap_objects.specs.Fits.{AskFits}
use Rattle.gnap_objects.proofs.grants.asked_size.Given as goal

abbrev pub invariant-loop-ask : goal.invariant-loop-ask
invariant-loop-ask l = record {
  size : capped (l.size + items_size (items (map right_data (asked_rights (drop l.ask-index l.ask-items)))))
      ≡ capped (items_size (items (map right_data (asked_rights l.asks))));
  bounded : l.size < 2 ^ 64;
  fits : AllByRecursion AskFits (drop l.ask-index l.ask-items);
}
