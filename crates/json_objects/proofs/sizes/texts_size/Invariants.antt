use Rattle.std.proofs.Common.{◌≡◌, ◌+◌, ◌^◌, ◌<◌, drop, map}
use Rattle.serde_json.specs.Data.{string}
use Rattle.json_objects.specs.Objects.{items}
use Rattle.json_objects.specs.Sizes.{capped, items_size}
use Rattle.json_objects.proofs.sizes.texts_size.Given as goal

abbrev pub invariant-loop-text : goal.invariant-loop-text
invariant-loop-text l = record {
  items : capped (l.items + items_size (items (map string (drop l.text-index l.text-items))))
      ≡ capped (items_size (items (map string l.texts)));
  fits : l.items < 2 ^ 64;
}
