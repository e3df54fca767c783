use Rattle.std.proofs.Common.{◌≡◌, drop}
use Rattle.std.specs.List.{AllByRecursion}
use Rattle.std.specs.Str.{IsUtf8}
use Rattle.serde_json.specs.View.{items_view}
use Rattle.json_objects.specs.Reading.{each}
use Rattle.json_objects.proofs.Loops.{with_front}
use Rattle.gnap_objects.specs.Reading.{text_of}
use Rattle.gnap_objects.proofs.setups.strings_of.Given as goal

abbrev pub invariant-loop-item : goal.invariant-loop-item
invariant-loop-item l = record {
  read : with_front l.texts (each (text_of l.name) (items_view (drop l.item-index l.item-items))) ≡ each (text_of l.name) (items_view l.item-items);
  utf8 : AllByRecursion IsUtf8 l.texts;
}
