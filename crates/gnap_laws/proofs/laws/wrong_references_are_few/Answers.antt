use Rattle.gnap_laws.proofs.WrongReferences.{history_few}
use Rattle.gnap_laws.proofs.laws.wrong_references_are_few.Goals as goal

pub returns : goal.returns
returns c = λ rules history moment grant round. history_few rules history grant moment round
