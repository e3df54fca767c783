use Rattle.std.proofs.Common.{rules, ◌≡◌, true, get_or}
use Rattle.structured_fields.specs.Letters.{is_key_start, is_key_byte}
use Rattle.structured_fields.specs.Reading.{front, behind}
use Rattle.structured_fields.proofs.PlainLists.{key_parted}
use Rattle.structured_fields.proofs.plain_lists.key_and_rest.Goals as goal

pub returns-in-61 : goal.returns-in-61
returns-in-61 c =
    let at = c.key_run.ensures.len in
    let start : is_key_start (get_or c.args.text.now 0 0) ≡ true = search rules in
    let key : c.split_at.result.0.now ≡ front is_key_byte c.args.text.now = search rules in
    let rest : c.split_at.result.1.now ≡ behind is_key_byte c.args.text.now = search rules in
    let equals : get_or c.split_at.result.1.now 0 0 ≡ 61 = search rules in
    key_parted c.args.text.now c.split_at.result.0.now c.split_at.result.1.now start key rest c.in-61.len_at_least equals
