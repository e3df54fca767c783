use Rattle.std.proofs.Common.{◌≡◌, ◌∙◌, sym}
use Rattle.gnap_tables.specs.RowSearches.{row_by_manage}
use Rattle.table_core.specs.CallEffects.{tables_in}
use Rattle.table_core.specs.Choices.{revocation_of}
use Rattle.table_core.specs.declared.revoking.Revocation.TheVariants.{Refused}
use Rattle.table_core.proofs.RevokedTokens.{revocation_refused}
use Rattle.table_core.proofs.revoking.revoke.Goals as goal

pub returns-in-Refused-clause-acts : goal.returns-in-Refused-clause-acts
returns-in-Refused-clause-acts c = λ rules next supply.
    let key = c.args.key.now in
    let grants = c.args.grants.now.rows in
    let tokens = c.args.tokens.now.rows in
    let found = row_by_manage c.args.value.now tokens in
    let chosen : revocation_of key grants found
    ≡ Refused c.in-Refused.code = rw (sym c.as_slice.ensures.value, sym c.as_slice-2.ensures.value) (sym c.revocation_by.ensures ∙ c.in-Refused.is) in
    rw c.undrawn.ensures (revocation_refused supply (tables_in grants tokens) key grants found c.in-Refused.code chosen)
