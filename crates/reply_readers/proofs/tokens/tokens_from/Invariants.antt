use Rattle.std.proofs.Common.{◌≡◌, drop}
use Rattle.serde_json.specs.View.{items_view}
use Rattle.json_objects.specs.Bodies.{AreBodies}
use Rattle.json_objects.specs.Reading.{each}
use Rattle.json_objects.proofs.Loops.{with_front}
use Rattle.reply_readers.specs.Grants.{token_of}
use Rattle.reply_readers.proofs.tokens.tokens_from.Given as goal

abbrev pub invariant-loop-item : goal.invariant-loop-item
invariant-loop-item l = record {
  read : with_front l.tokens (each token_of (items_view (drop l.item-index l.item-items))) ≡ each token_of (items_view l.item-items);
  bodies : AreBodies (items_view (drop l.item-index l.item-items));
}
