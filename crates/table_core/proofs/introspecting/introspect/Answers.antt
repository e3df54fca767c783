use Rattle.std.proofs.Common.{◌≡◌, Bor, Option, Some, sym, ap}
use Rattle.std.specs.Prelude.{option_map}
use Rattle.gnap_tables.specs.declared.rows.TokenRow.{TokenRow}
use Rattle.table_core.specs.Choices.{judged_reply}
use Rattle.table_core.proofs.ToldTokens.{told_from, shown}
use Rattle.table_core.proofs.introspecting.introspect.Goals as goal

pub returns-in-NotServed : goal.returns-in-NotServed
returns-in-NotServed c = λ next supply at.
    let names = c.server_names-names.result.now in
    let row = option_map (λ row. row.now) c.by_value-row.result in
    told_from supply c.args.rules.now next c.args.server.now c.args.value.now c.as_slice.result.now c.as_slice-2.result.now c.args.now
    c.args.grants.now.rows c.args.tokens.now.rows names c.args.binding c.args.wanted.now row c.grant_approved-approved.result c.judge-judged.result _
    c.len-count.ensures.ordered c.as_slice.ensures.value c.as_slice-2.ensures.value c.server_names-names.ensures c.by_value-row.ensures
    c.grant_approved-approved.ensures c.judge-judged.ensures
    (sym (ap (judged_reply names row) c.in-NotServed.is)) at

pub returns-in-Inactive : goal.returns-in-Inactive
returns-in-Inactive c = λ next supply at.
    let names = c.server_names-names.result.now in
    let row = option_map (λ row. row.now) c.by_value-row.result in
    told_from supply c.args.rules.now next c.args.server.now c.args.value.now c.as_slice.result.now c.as_slice-2.result.now c.args.now
    c.args.grants.now.rows c.args.tokens.now.rows names c.args.binding c.args.wanted.now row c.grant_approved-approved.result c.judge-judged.result _
    c.len-count.ensures.ordered c.as_slice.ensures.value c.as_slice-2.ensures.value c.server_names-names.ensures c.by_value-row.ensures
    c.grant_approved-approved.ensures c.judge-judged.ensures
    (sym (ap (judged_reply names row) c.in-Inactive.is)) at

pub returns-in-Some : goal.returns-in-Some
returns-in-Some c = λ next supply at.
    let names = c.server_names-names.result.now in
    let row = option_map (λ row. row.now) c.by_value-row.result in
    let token = c.in-Some.row.now in
    let found : row ≡ Some token = ap (λ (found : Option (Bor TokenRow)). option_map (λ row. row.now) found) c.in-Some.is in
    told_from supply c.args.rules.now next c.args.server.now c.args.value.now c.as_slice.result.now c.as_slice-2.result.now c.args.now
    c.args.grants.now.rows c.args.tokens.now.rows names c.args.binding c.args.wanted.now row c.grant_approved-approved.result c.judge-judged.result _
    c.len-count.ensures.ordered c.as_slice.ensures.value c.as_slice-2.ensures.value c.server_names-names.ensures c.by_value-row.ensures
    c.grant_approved-approved.ensures c.judge-judged.ensures
    (shown names c.in_ok-access-in-Some.access c.in_ok-rights.rights c.in_ok-instance-in-Some.instance token row c.judge-judged.result found c.in-Active.is
    c.in_ok-access-in-Some.ensures (c.in_ok-rights.ensures token found) c.in_ok-instance-in-Some.ensures) at
