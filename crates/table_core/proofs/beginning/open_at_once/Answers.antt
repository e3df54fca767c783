use Rattle.std.proofs.Common.{◌≡◌, ◌∙◌, ap, refl}
use Rattle.gnap_model.specs.Actions.{instance_of}
use Rattle.gnap_tables.specs.RowSearches.{opening_of}
use Rattle.gnap_tables.specs.Tables.{new_token}
use Rattle.table_core.specs.Entries.{supply}
use Rattle.grant_rules.proofs.Issuing.{tokens_as, granted_as}
use Rattle.table_core.proofs.OpeningPlans.{at_once_is}
use Rattle.table_core.proofs.beginning.open_at_once.Goals as goal

pub returns : goal.returns
returns c =
    let entering = c.args.entering.now in
    let o = c.args.opening in
    let request = c.args.request.now in
    let row = c.as_ref.result.now in
    let same : opening_of row ≡ o = ap opening_of (c.as_ref.ensures ∙ c.in_ok-row.ensures) in
    let granting = c.in_ok-granting.granting in
    at_once_is entering o request c.len-count.result granting.reply c.in_ok-row.row c.value-door.result granting.tokens c.requires.next c.requires.numbers
    c.len-count.ensures c.requires.few entering.supply.room
    (granted_as (supply entering) (opening_of row) o c.as_slice.result.now request.asks request.single _ _ c.in_ok-instance.instance (instance_of o)
    granting.reply same c.as_slice.ensures refl c.in_ok-instance.ensures c.in_ok-granting.ensures.reply)
    c.in_ok-row.ensures c.value-door.ensures
    (tokens_as new_token (supply entering) (opening_of row) o c.as_slice.result.now request.asks _ same c.as_slice.ensures c.in_ok-granting.ensures.tokens)
