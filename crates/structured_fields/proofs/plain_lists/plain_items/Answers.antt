use Rattle.std.proofs.Common.{rules, ◌≡◌, ◌∷◌, ◌++◌, [], get_or}
use Rattle.structured_fields.proofs.PlainLists.{plain_item, items_closed, items_more, items_plain}
use Rattle.structured_fields.proofs.plain_lists.plain_items.Goals as goal

pub returns-in-41 : goal.returns-in-41
returns-in-41 c =
    let pushed : c.push.new.self ≡ c.loop.items ++ plain_item c.in_ok-held.held.now ∷ [] = search rules in
    let close : get_or c.in_ok-held.rest.now 0 0 ≡ 41 = search rules in
    let held = c.in_ok-held.ensures in
    let so_far = c.loop.invariant in (
      items_closed c.args.text.now c.loop.left.now c.in_ok-held.held.now c.in_ok-held.rest.now c.loop.items c.push.new.self so_far.0 held.0 pushed
          c.in-41.len_at_least close,
      items_plain c.loop.items c.push.new.self c.in_ok-held.held.now pushed so_far.1 held.1,
    )

pub loop-preserved : goal.loop-preserved
loop-preserved c =
    let pushed : c.push.new.self ≡ c.loop.items ++ plain_item c.in_ok-held.held.now ∷ [] = search rules in
    let space : get_or c.in_ok-held.rest.now 0 0 ≡ 32 = search rules in
    let held = c.in_ok-held.ensures in
    let so_far = c.loop.invariant in (
      items_more c.args.text.now c.loop.left.now c.in_ok-held.held.now c.in_ok-held.rest.now c.loop.items c.push.new.self so_far.0 held.0 pushed
          c.in-32.len_at_least space,
      items_plain c.loop.items c.push.new.self c.in_ok-held.held.now pushed so_far.1 held.1,
    )
