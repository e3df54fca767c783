use Rattle.std.proofs.Common.{◌≡◌, ℕ, ◌-◌, List, get_or, sym, ◌∙◌, arith}
use Rattle.std.specs.Char.{is_ascii_digit, digit_value}
use Rattle.std.proofs.lemmas.List.Folds.{list_all_more}
use Rattle.std.proofs.lemmas.Bool.Decides.{nat_tests}
use Rattle.std.proofs.lemmas.Bool.{and_from}
use Rattle.std.proofs.lemmas.Int.Digits.{digits_value_more}
use Rattle.http_edge.proofs.framing.decimal_number.Goals as goal

pub loop-digit-preserved : goal.loop-digit-preserved
loop-digit-preserved c =
    let v : List ℕ = c.args.digits.now in
    let i : ℕ = c.loop-digit.digit-index in
    let digit : digit_value (get_or v i 0) ≡ get_or v i 0 - 48 = grind (arith, nat_tests) in
    let more = digits_value_more 10 v i c.loop-digit-test.true in
    record {
      value = omega (arith, more, digit, c.loop-digit.invariant.value, c.saturating_mul.ensures, c.saturating_add-number.ensures);
      digits = list_all_more is_ascii_digit v i 0 c.loop-digit-test.true
          ∙ and_from _ _ c.loop-digit.invariant.digits (sym c.is_ascii_digit.ensures.value ∙ c.if-not-is_ascii_digit.false);
    }
