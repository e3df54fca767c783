use Rattle.std.proofs.Common.{◌≡◌, ◌≤◌, ◌-◌, [], length, take, drop, replicate}
use Rattle.serde_json.specs.View.{items_view}
use Rattle.call_replay.specs.CallLines.{words_from}
use Rattle.call_replay.proofs.call_lines.words_of.Given as goal

abbrev pub invariant-loop-item : goal.invariant-loop-item
invariant-loop-item l = record {
  within : l.place ≤ 48;
  size : length l.words ≡ 48;
  rest : drop l.place l.words ≡ replicate (48 - l.place) 0;
  so_far : words_from (take l.place l.words) (items_view (drop l.item-index l.item-items)) ≡ words_from [] (items_view l.item-items);
  items_are : l.item-items ≡ l.items.items;
}
