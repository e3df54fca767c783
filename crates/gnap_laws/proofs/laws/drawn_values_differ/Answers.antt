use Rattle.std.proofs.Common.{reverse, arith}
use Rattle.std.proofs.lemmas.List.{length-reverse}
use Rattle.gnap_laws.proofs.NewestFirst.{legal_past}
use Rattle.gnap_laws.proofs.Bound.{draws_differ}
use Rattle.gnap_laws.proofs.laws.drawn_values_differ.Goals as goal

pub returns : goal.returns
returns c = λ rules h legal few. draws_differ rules (reverse h) (legal_past rules h legal) (let k = length-reverse h in omega arith)
