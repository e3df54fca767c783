use Rattle.signature_laws.proofs.ByBoth.{rotated_is_by_both, by_both_is_rotated}
use Rattle.signature_laws.proofs.ByFault.{first_is_told, second_is_told, not_chained_is_told}
use Rattle.signature_laws.proofs.rotation.rotation_laws.Goals as goal

pub returns-clause-says : goal.returns-clause-says
returns-clause-says c = λ m base ring now keys is. rotated_is_by_both m base ring now keys is

pub returns-clause-only : goal.returns-clause-only
returns-clause-only c = λ m base ring now keys are. by_both_is_rotated m base ring now keys are

pub returns-clause-first : goal.returns-clause-first
returns-clause-first c = λ m base ring now fault is. first_is_told m base ring now fault is

pub returns-clause-second : goal.returns-clause-second
returns-clause-second c = λ m base ring now old fault first is. second_is_told m base ring now old fault first is

pub returns-clause-apart : goal.returns-clause-apart
returns-clause-apart c = λ m base ring now old new first second old_is new_is first_is second_is apart.
    not_chained_is_told m base ring now old new first second old_is new_is first_is second_is apart
