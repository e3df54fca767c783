use Rattle.std.proofs.Common.{◌≡◌, ◌+◌, ◌*◌, true, false, length}
use Rattle.json.specs.Lex.{Place, may_begin}
use Rattle.serde_json.specs.View.{items_view, members_view}
use Rattle.serde_json.specs.Written.{items_have_float, members_have_float}
use Rattle.body_reading.proofs.PlainBodies.{Reading, ItemsLeft, MembersLeft}
use Rattle.body_reading.proofs.plain_bodies.+plain.Given as goal

abbrev pub decreases-read_value : goal.decreases-read_value
decreases-read_value l = 2 * l.depth

abbrev pub decreases-read_items : goal.decreases-read_items
decreases-read_items l = 2 * l.depth + 1

abbrev pub decreases-read_members : goal.decreases-read_members
decreases-read_members l = 2 * l.depth + 1

abbrev pub invariant-read_items-items : goal.invariant-read_items-items
invariant-read_items-items l =
    (place : Place) × (may_begin place ≡ true) × Reading (ItemsLeft l.depth l.fn.rest l.found.items) place l.fn.rest l.rest
    × (items_have_float (items_view l.found.items) ≡ false)

abbrev pub decreases-read_items-items : goal.decreases-read_items-items
decreases-read_items-items l = length l.rest

abbrev pub invariant-read_members-members : goal.invariant-read_members-members
invariant-read_members-members l =
    (place : Place) × (may_begin place ≡ true) × Reading (MembersLeft l.depth l.fn.rest (members_view l.found.entries)) place l.fn.rest l.rest
    × (members_have_float (members_view l.found.entries) ≡ false)

abbrev pub decreases-read_members-members : goal.decreases-read_members-members
decreases-read_members-members l = length l.rest
