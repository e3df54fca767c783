use Rattle.std.proofs.Common.{◌≡◌, ◌∙◌, map, arith}
use Rattle.std.proofs.lemmas.Grind.{common_steps}
use Rattle.serde_json.specs.Data.{string}
use Rattle.json_objects.specs.Objects.{items}
use Rattle.json_objects.specs.Sizes.{capped, items_size}
use Rattle.json_objects.proofs.Lengths.{told_array}
use Rattle.json_objects.proofs.sizes.texts_size.Goals as goal

pub returns : goal.returns
returns c =
    let told : c.loop-text.items ≡ capped (items_size (items (map string c.args.texts.now))) = grind (arith, common_steps) in
    c.enclosed_size.ensures ∙ told_array c.loop-text.items (items (map string c.args.texts.now)) told
