use Rattle.std.proofs.Common.{◌≡◌, ◌++◌, drop, map}
use Rattle.std.specs.List.{AllByRecursion}
use Rattle.std.specs.Str.{IsUtf8}
use Rattle.serde_json.specs.Data.{string}
use Rattle.serde_json.specs.View.{view}
use Rattle.json_objects.proofs.values.texts_value.Given as goal

abbrev pub invariant-loop-text : goal.invariant-loop-text
invariant-loop-text l = record {
  made : map view l.items.items ++ map string (drop l.text-index l.text-items) ≡ map string l.texts;
  utf8 : AllByRecursion IsUtf8 (drop l.text-index l.text-items);
}
