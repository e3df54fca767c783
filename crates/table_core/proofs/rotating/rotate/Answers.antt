use Rattle.std.proofs.Common.{◌≡◌, ◌∙◌, ◌<◌, ap, arith}
use Rattle.std.specs.Prelude.{option_map}
use Rattle.std.specs.List.{All}
use Rattle.std.proofs.lemmas.List.Elements.{All-filter}
use Rattle.gnap_tables.specs.declared.rows.TokenRow.{TokenRow}
use Rattle.gnap_tables.specs.Tables.{drop_token}
use Rattle.table_core.proofs.RotatedTokens.{successor_is, rotation_done}
use Rattle.table_core.proofs.rotating.rotate.Goals as goal

pub issue-requires-clause-is : goal.issue-requires-clause-is
issue-requires-clause-is c =
    rw c.in_ok-row-in-Succeeded.ensures.ok
    (successor_is c.args.supply.now c.args.rules.now c.as_slice-2.result.now c.args.new_key.now c.args.grants.now.rows
    (option_map (λ row. row.now) c.by_manage-token.result) c.in_ok-rotation.rotation _ _ _
    c.requires.room.1.first_small c.in_ok-rotation.ensures c.in-Succeeded.is).0

pub issue-requires-clause-above : goal.issue-requires-clause-above
issue-requires-clause-above c =
    let first = c.args.supply.now.first in
    let new : c.in_ok-row-in-Succeeded.row.value.serial ≡ first = ap (λ (row : TokenRow). row.serial) c.in_ok-row-in-Succeeded.ensures.ok
    ∙ (successor_is c.args.supply.now c.args.rules.now c.as_slice-2.result.now c.args.new_key.now c.args.grants.now.rows
    (option_map (λ row. row.now) c.by_manage-token.result) c.in_ok-rotation.rotation _ _ _
    c.requires.room.1.first_small c.in_ok-rotation.ensures c.in-Succeeded.is).1 in
    let low : All (λ (other : TokenRow). other.serial < c.in_ok-row-in-Succeeded.row.value.serial) (drop_token c.in-Succeeded.serial c.args.tokens.now.rows) =
    All-filter _ (λ (other : TokenRow). other.serial < c.in_ok-row-in-Succeeded.row.value.serial) c.args.tokens.now.rows
    (λ k d inside. let below = c.requires.room.1.serials k d inside in omega (arith, below, new)) in
    rw (c.retire.ensures.rows, c.in_ok-reserve-in-Succeeded.ensures.rows) low

pub returns-in-Denied-clause-ok : goal.returns-in-Denied-clause-ok
returns-in-Denied-clause-ok c = λ next.
    rw c.undrawn.ensures
    (rotation_done c.args.supply.now c.args.rules.now next c.args.key.now c.args.value.now c.as_slice-2.result.now c.as_slice.result.now c.args.new_key.now
    c.args.grants.now.rows c.args.tokens.now.rows
    (option_map (λ row. row.now) c.by_manage-token.result) c.in_ok-rotation.rotation _ c.requires.room.1.first_small c.as_slice-2.ensures.value
    c.as_slice.ensures.value c.by_manage-token.ensures c.in_ok-rotation.ensures c.in-Denied.is)

pub returns-in_ok-reserve-in-Succeeded-clause-ok : goal.returns-in_ok-reserve-in-Succeeded-clause-ok
returns-in_ok-reserve-in-Succeeded-clause-ok c = λ next.
    rw (c.issue.ensures.rows, c.retire.ensures.rows, c.in_ok-reserve-in-Succeeded.ensures.rows, c.in_ok-row-in-Succeeded.ensures.ok)
    (rotation_done c.args.supply.now c.args.rules.now next c.args.key.now c.args.value.now c.as_slice-2.result.now c.as_slice.result.now c.args.new_key.now
    c.args.grants.now.rows c.args.tokens.now.rows
    (option_map (λ row. row.now) c.by_manage-token.result) c.in_ok-rotation.rotation _ c.requires.room.1.first_small c.as_slice-2.ensures.value
    c.as_slice.ensures.value c.by_manage-token.ensures c.in_ok-rotation.ensures c.in-Succeeded.is).0
