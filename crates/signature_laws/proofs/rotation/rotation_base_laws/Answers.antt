use Rattle.signature_laws.proofs.HeldLines.{covered_is_held}
use Rattle.signature_laws.proofs.PlainBase.{plain_base}
use Rattle.signature_laws.proofs.rotation.rotation_base_laws.Goals as goal

pub returns-clause-same : goal.returns-clause-same
returns-clause-same c = λ m base list plain. plain_base m base list plain

pub returns-clause-held : goal.returns-clause-held
returns-clause-held c = λ m base list label text covers is. covered_is_held m base list label text covers is
