-- Which number a JSON number is, by what is asked of it.
use Rattle.std.proofs.Common.{◌≡◌, ℕ, ℤ, pos, negsuc, true, int_lt, Some, None, SFits, w64, refl, sym, ap, subst, arith}
use Rattle.std.specs.Prelude.{unwrap_or}
use Rattle.std.specs.Fmt.{signed_decimal}
use Rattle.std.specs.Float.{float_is_finite}
use Rattle.serde_json.specs.Data.{Num, unsigned, negative, float}
use Rattle.serde_json.specs.Find.{as_u64, as_i64, to_float}
use Rattle.serde_json.specs.Read.{number_of}
use Rattle.serde_json.specs.Number.{num_of, is_valid}
use Rattle.serde_json.proofs.Numbers.{number_of-negative}
use Rattle.serde_json.specs.declared.number.N.{N}
use Rattle.serde_json.specs.declared.number.N.TheVariants.{PosInt, NegInt, Float}

pub from_u64 : (x : Num) (n : ℕ) → as_u64 x ≡ Some n → unsigned n ≡ x
from_u64 (unsigned m) n e = ap (λ o. unsigned (unwrap_or o 0)) (sym e)
from_u64 (negative z) n e = absurd (cc)
from_u64 (float x) n e = absurd (cc)

pub from_i64 : (x : Num) (z : ℤ) → as_u64 x ≡ None → as_i64 x ≡ Some z → negative z ≡ x
from_i64 (unsigned m) z absent e = absurd (cc)
from_i64 (negative y) z absent e = ap (λ o. negative (unwrap_or o (pos 0))) (sym e)
from_i64 (float x) z absent e = absurd (cc)

pub from_neither : (x : Num) → as_u64 x ≡ None → as_i64 x ≡ None → float (to_float x) ≡ x
from_neither (unsigned m) absent none = absurd (cc)
from_neither (negative z) absent none = absurd (cc)
from_neither (float x) absent none = refl

pub below_zero : (n : N) (z : ℤ) → is_valid n ≡ true → negative z ≡ num_of n → int_lt z (pos 0) ≡ true
below_zero (PosInt m) z valid e = absurd (cc)
below_zero (NegInt y) z valid e = subst (λ o. int_lt (unwrap_or o (pos 0)) (pos 0) ≡ true) (sym (ap as_i64 e)) valid
below_zero (Float x) z valid e = absurd (cc)

pub is_finite : (n : N) → is_valid n ≡ true → float (to_float (num_of n)) ≡ num_of n → float_is_finite (to_float (num_of n)) ≡ true
is_finite (PosInt m) valid e = absurd (cc)
is_finite (NegInt y) valid e = absurd (cc)
is_finite (Float x) valid e = valid

pub number_of-below_zero : (z : ℤ) → int_lt z (pos 0) ≡ true → SFits w64 z → number_of (signed_decimal z) ≡ Some (negative z)
number_of-below_zero (pos n) e fits = absurd (grind arith)
number_of-below_zero (negsuc n) e fits = number_of-negative n (grind arith)
