use Rattle.std.proofs.Common.{rules, ◌≡◌, ◌-◌, List, ℕ, length, take, drop, get_or, refl}
use Rattle.structured_fields.specs.Letters.{is_plain}
use Rattle.structured_fields.specs.Reading.{front, behind}
use Rattle.structured_fields.proofs.PlainLists.{string_parted}
use Rattle.structured_fields.proofs.plain_lists.unescaped_string.Goals as goal

pub returns-in-34-rest : goal.returns-in-34-rest
returns-in-34-rest c =
    let at = c.plain_run.ensures.len in
    let inside : List ℕ = take (length c.args.text.now - 1) (drop 1 c.args.text.now) in
    let quote : get_or c.args.text.now 0 0 ≡ 34 = search rules in
    let held : c.split_at.result.0.now ≡ front is_plain inside = search rules in
    let rest : c.split_at.result.1.now ≡ behind is_plain inside = search rules in
    let close : get_or c.split_at.result.1.now 0 0 ≡ 34 = search rules in
    string_parted c.args.text.now inside c.split_at.result.0.now c.split_at.result.1.now c.in-34.len_at_least quote refl held rest
    c.in-34-rest.len_at_least close
