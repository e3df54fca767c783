use Rattle.std.proofs.Common.{reverse, length, arith, ◌≤◌, ◌^◌}
use Rattle.std.proofs.lemmas.List.{length-reverse}
use Rattle.gnap_laws.proofs.NewestFirst.{legal_past}
use Rattle.gnap_laws.proofs.Once.{once, refused_after}
use Rattle.gnap_laws.proofs.Bound.{is_short}
use Rattle.gnap_laws.proofs.laws.doors_open_once.Goals as goal

pub returns : goal.returns
returns c = λ rules h value legal few.
    let bound : length (reverse h) ≤ 2 ^ 58 = (let k = length-reverse h in omega arith) in
    let past = legal_past rules h legal in
    let short = is_short rules (reverse h) past bound in
    (once rules (reverse h) value past short, refused_after rules (reverse h) value past short)
