use Rattle.std.proofs.Common.{◌≡◌, ◌-◌, length, refl, sym, arith}
use Rattle.std.proofs.lemmas.List.{get_or_past}
use Rattle.grant_states.specs.CodeNumbers.{letter_digits}
use Rattle.grant_states.proofs.code_numbers.digit.Goals as goal

pub returns-else-place-lt26-clause-value : goal.returns-else-place-lt26-clause-value
returns-else-place-lt26-clause-value c =
    let many : length letter_digits ≡ 26 = refl in
    sym (get_or_past letter_digits (c.args.letter - 65) 0 (omega (arith, many, c.if-place-lt26.false, c.saturating_sub-place.ensures)))
