-- Objects that are made member by member.
use Rattle.std.specs.Prelude.{◌≡◌, IfOk}
use Rattle.serde_json.specs.Data.{Members}
use Rattle.serde_json.specs.View.{members_view}
use Rattle.json_objects.specs.declared.drafts.Draft.{Draft}

-- these are the members so far, if memory hasn't run out
abbrev pub HasMembers : Draft → Members → Type 0
HasMembers draft ms = IfOk draft.members (λ m. members_view m.entries ≡ ms)
