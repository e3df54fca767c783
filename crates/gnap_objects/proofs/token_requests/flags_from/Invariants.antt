use Rattle.std.proofs.Common.{◌≡◌, ℕ, List, [], false, codes, drop}
use Rattle.serde_json.specs.View.{items_view}
use Rattle.json_objects.specs.TextSets.{has_text}
use Rattle.gnap_objects.specs.TokenRequests.{has_flag, flags_from}
use Rattle.gnap_objects.proofs.token_requests.flags_from.Given as goal

-- with the flags before
abbrev pub invariant-loop-item : goal.invariant-loop-item
invariant-loop-item l = (before : List (List ℕ))
    × (flags_from before l.repeated (items_view (drop l.item-index l.item-items)) ≡ flags_from [] false (items_view l.item-items))
    × ((flag : List ℕ) → has_text l.seen flag ≡ has_flag flag before)
    × (l.bearer ≡ has_flag (codes "bearer") before)
