use Rattle.message_signature.specs.Seen.{signature_seen}
use Rattle.rotation_checks.proofs.Told.{second_gives, second_told}
use Rattle.rotation_checks.proofs.verifying.second_signature.Goals as goal

pub returns-clause-gives : goal.returns-clause-gives
returns-clause-gives c = rw c.in_second.ensures (second_gives signature_seen c.tagged.result _ c.tagged.ensures)

pub returns-clause-told : goal.returns-clause-told
returns-clause-told c = rw c.in_second.ensures (second_told c.tagged.result)
