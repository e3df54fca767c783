use Rattle.std.proofs.Common.{◌≡◌, true, rules}
use Rattle.gnap_model.specs.Common.{same_text}
use Rattle.table_core.proofs.rotating.rotation_on.Goals as goal

pub returns-else-ne : goal.returns-else-ne
returns-else-ne c =
    let same : same_text c.args.token.now.key c.args.key.now ≡ true = search rules in
    rw (c.in-Some.is, same) c.rotation_to.ensures
