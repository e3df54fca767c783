use Rattle.std.proofs.Common.{◌≡◌, ◌++◌}
use Rattle.std.specs.List.{AllByRecursion}
use Rattle.structured_fields.specs.PlainLists.{IsPlainItem}
use Rattle.structured_fields.proofs.PlainLists.{spaced_text}
use Rattle.structured_fields.proofs.plain_lists.plain_items.Given as goal

abbrev pub invariant-loop : goal.invariant-loop
invariant-loop l = (l.fn.text ≡ spaced_text l.items ++ l.left) × AllByRecursion IsPlainItem l.items
