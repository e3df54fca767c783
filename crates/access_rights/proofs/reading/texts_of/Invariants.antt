use Rattle.std.proofs.Common.{◌≡◌, drop}
use Rattle.std.specs.List.{AllByRecursion}
use Rattle.std.specs.Str.{IsUtf8}
use Rattle.serde_json.specs.View.{items_view}
use Rattle.json_objects.specs.Reading.{each}
use Rattle.json_objects.proofs.Loops.{with_front}
use Rattle.access_rights.specs.Reading.{any_text}
use Rattle.access_rights.proofs.reading.texts_of.Given as goal

abbrev pub invariant-loop-item : goal.invariant-loop-item
invariant-loop-item l = record {
  read : with_front l.texts (each any_text (items_view (drop l.item-index l.item-items))) ≡ each any_text (items_view l.item-items);
  utf8 : AllByRecursion IsUtf8 l.texts;
}
