use Rattle.rotation_checks.proofs.Told.{first_gives, first_told}
use Rattle.rotation_checks.proofs.verifying.old_key.Goals as goal

pub returns-clause-gives : goal.returns-clause-gives
returns-clause-gives c = rw c.in_first.ensures (first_gives (λ id. id) c.judged_list.result _ (c.judged_list.ensures c.args.one.now.label.now))

pub returns-clause-told : goal.returns-clause-told
returns-clause-told c = rw c.in_first.ensures (first_told c.judged_list.result)
