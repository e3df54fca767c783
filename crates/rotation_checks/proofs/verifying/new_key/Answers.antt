use Rattle.rotation_checks.proofs.Told.{second_gives, second_told}
use Rattle.rotation_checks.proofs.verifying.new_key.Goals as goal

pub returns-clause-gives : goal.returns-clause-gives
returns-clause-gives c = rw c.in_second.ensures (second_gives (λ id. id) c.judged_again.result _ c.judged_again.ensures)

pub returns-clause-told : goal.returns-clause-told
returns-clause-told c = rw c.in_second.ensures (second_told c.judged_again.result)
