use Rattle.std.proofs.Common.{◌≡◌, List, drop}
use Rattle.json.specs.Token.{Token}
use Rattle.serde_json.specs.View.{items_view}
use Rattle.serde_json.specs.Written.{WritesItems}
use Rattle.access_rights.proofs.WrittenParts.{EndsMembers}
use Rattle.access_rights.proofs.further.+writing.Given as goal

-- whatever ends the array well from here ends it well from the start
abbrev pub invariant-write_items-loop-item : goal.invariant-write_items-loop-item
invariant-write_items-loop-item l =
    (l.out.before ≡ l.initial.out.before)
    × ((end : List Token) → WritesItems (items_view (drop l.item-index l.item-items)) l.out.tokens end
    → WritesItems (items_view l.item-items) l.initial.out.tokens end)

abbrev pub invariant-write_members-loop-key : goal.invariant-write_members-loop-key
invariant-write_members-loop-key l =
    (l.out.before ≡ l.initial.out.before) × EndsMembers (λ ms. ms) l.members.entries l.key-iterator l.initial.out.tokens l.out.tokens
