use Rattle.rotation_checks.proofs.Told.{first_gives, first_is, first_told}
use Rattle.rotation_checks.proofs.verifying.fields_of.Goals as goal

pub returns-clause-gives : goal.returns-clause-gives
returns-clause-gives c = rw c.in_first.ensures (first_gives (λ fields. fields) c.signature_fields.result _ c.signature_fields.ensures)

pub returns-clause-are : goal.returns-clause-are
returns-clause-are c = rw c.in_first.ensures (first_is c.signature_fields.result _ c.signature_fields.ensures)

pub returns-clause-told : goal.returns-clause-told
returns-clause-told c = rw c.in_first.ensures (first_told c.signature_fields.result)
