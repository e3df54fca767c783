use Rattle.signature_laws.proofs.Accepted.{verified_accepted, accepted_verified, accepted_is_marked}
use Rattle.signature_laws.proofs.acceptance.accepted_laws.Goals as goal

pub returns-clause-says : goal.returns-clause-says
returns-clause-says c = λ m base ring now tag id is. verified_accepted m base ring now tag id is

pub returns-clause-only : goal.returns-clause-only
returns-clause-only c = λ m base ring now tag id accepted. accepted_verified m base ring now tag id accepted

pub returns-clause-marked : goal.returns-clause-marked
returns-clause-marked c = λ m base ring now tag id accepted. accepted_is_marked m base ring now tag id accepted
