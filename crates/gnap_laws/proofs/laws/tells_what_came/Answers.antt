use Rattle.std.proofs.Common.{reverse, length, arith, ◌≤◌, ◌^◌}
use Rattle.std.proofs.lemmas.List.{length-reverse}
use Rattle.gnap_laws.proofs.NewestFirst.{legal_past}
use Rattle.gnap_laws.proofs.Tells.{tells_right}
use Rattle.gnap_laws.proofs.Bound.{is_short}
use Rattle.gnap_laws.proofs.laws.tells_what_came.Goals as goal

pub returns : goal.returns
returns c = λ rules h legal few.
    let bound : length (reverse h) ≤ 2 ^ 58 = (let k = length-reverse h in omega arith) in
    let past = legal_past rules h legal in
    tells_right rules (reverse h) past (is_short rules (reverse h) past bound)
