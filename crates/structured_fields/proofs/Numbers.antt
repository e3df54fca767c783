-- Numbers: what is read is a number's text, and a number's text is read.
use Rattle.std.proofs.Common.{◌≡◌, ℕ, ◌≤◌, Bool, true, false, cond, ◌&&◌, inl, inr, List, [], ◌∷◌, ◌++◌, length, drop, Option, Some, None, refl, sym, ap, subst, ◌∙◌, arith, append_assoc, ℤ}
use Rattle.std.proofs.lemmas.Bool.{and_parts}
use Rattle.std.specs.List.{prefix_len, list_all}
use Rattle.std.proofs.lemmas.Bool.Decides.{nat_tests}
use Rattle.std.proofs.lemmas.List.Folds.{length-prefix_len}
use Rattle.structured_fields.specs.declared.bare.Bare.{Bare}
use Rattle.structured_fields.specs.declared.bare.Bare.TheVariants.{Integer, Decimal}
use Rattle.structured_fields.specs.Letters.{is_digit, number, signed, sign}
use Rattle.structured_fields.specs.Grammar.{AreDigits, IsInteger, IsDecimal, IsBare}
use Rattle.structured_fields.specs.Reading.{front, behind, begins, within, thousandths, decimal_at, unsigned_at, number_at}
use Rattle.structured_fields.proofs.Runs.{digits_all}
use Rattle.structured_fields.proofs.Fronts.{run_again, front_again, behind_again, parts, chosen, given, some_is, begun, ends, ends_digit, ends_point}

within_is : (n most : ℕ) → 1 ≤ n → n ≤ most → within n most ≡ true
within_is n most low high = grind (arith, nat_tests)

within_bounds : (n most : ℕ) → within n most ≡ true → (1 ≤ n) × (n ≤ most)
within_bounds n most h = (grind (arith, nat_tests), grind (arith, nat_tests))

-- ---- what is written is read

decimal_again : (negative : Bool) (whole part rest : List ℕ) → AreDigits 1 12 whole → AreDigits 1 3 part → ends rest ≡ true
    → decimal_at negative whole (part ++ rest) ≡ Some (Decimal (signed negative (thousandths whole part)), rest)
unfolding decimal_at
decimal_again negative whole part rest w p e =
    let stop = ends_digit rest e in
    let len : prefix_len is_digit (part ++ rest) ≡ length part = run_again is_digit part rest p.all stop in
    let at : front is_digit (part ++ rest) ≡ part = front_again is_digit part rest p.all stop in
    let left : behind is_digit (part ++ rest) ≡ rest = behind_again is_digit part rest p.all stop in
    let first : within (length whole) 12 ≡ true = within_is (length whole) 12 w.least_len w.most_len in
    let second : within (prefix_len is_digit (part ++ rest)) 3 ≡ true = rw len (within_is (length part) 3 p.least_len p.most_len) in
    rw (first, second, at, left) refl

unsigned_again : (negative : Bool) (digits rest : List ℕ) → AreDigits 1 15 digits → ends rest ≡ true
    → unsigned_at negative (digits ++ rest) ≡ Some (Integer (signed negative (number digits)), rest)
unfolding unsigned_at
unsigned_again negative digits rest d e =
    let stop = ends_digit rest e in
    let len : prefix_len is_digit (digits ++ rest) ≡ length digits = run_again is_digit digits rest d.all stop in
    let at : front is_digit (digits ++ rest) ≡ digits = front_again is_digit digits rest d.all stop in
    let left : behind is_digit (digits ++ rest) ≡ rest = behind_again is_digit digits rest d.all stop in
    let point : begins 46 (behind is_digit (digits ++ rest)) ≡ false = rw left (ends_point rest e) in
    let fits : within (prefix_len is_digit (digits ++ rest)) 15 ≡ true = rw len (within_is (length digits) 15 d.least_len d.most_len) in
    rw (point, fits, at, left) refl

pointed_again : (negative : Bool) (whole part rest : List ℕ) → AreDigits 1 12 whole → AreDigits 1 3 part → ends rest ≡ true
    → unsigned_at negative (whole ++ (46 ∷ (part ++ rest))) ≡ Some (Decimal (signed negative (thousandths whole part)), rest)
unfolding unsigned_at
pointed_again negative whole part rest w p e =
    let tail : List ℕ = 46 ∷ (part ++ rest) in
    let at : front is_digit (whole ++ tail) ≡ whole = front_again is_digit whole tail w.all refl in
    let left : behind is_digit (whole ++ tail) ≡ tail = behind_again is_digit whole tail w.all refl in
    rw (left, at) (decimal_again negative whole part rest w p e)

-- ---- what is read is so written

pub record TakesPart (negative : Bool) (whole t : List ℕ) (x : Bare × List ℕ) : Type 0 where
  pub part : List ℕ
  pub parts : t ≡ part ++ x.1
  pub whole_fits : AreDigits 1 12 whole
  pub part_fits : AreDigits 1 3 part
  pub is : x.0 ≡ Decimal (signed negative (thousandths whole part))

decimal_takes : (negative : Bool) (whole t : List ℕ) (x : Bare × List ℕ) → list_all is_digit whole ≡ true → decimal_at negative whole t ≡ Some x
    → TakesPart negative whole t x
unfolding decimal_at
decimal_takes negative whole t x all e =
    let y : Bare × List ℕ = (Decimal (signed negative (thousandths whole (front is_digit t))), behind is_digit t) in
    let g = given (within (length whole) 12 && within (prefix_len is_digit t) 3) (Some y) x e in
    let w = and_parts (within (length whole) 12) (within (prefix_len is_digit t) 3) g.0 in
    let a = within_bounds (length whole) 12 w.0 in
    let b = within_bounds (prefix_len is_digit t) 3 w.1 in
    let n : length (front is_digit t) ≡ prefix_len is_digit t = length-prefix_len is_digit t in
    subst (TakesPart negative whole t) (some_is y x g.1) (record {
      part = front is_digit t;
      parts = parts is_digit t;
      whole_fits = record { all = all; least_len = a.0; most_len = a.1 };
      part_fits = record { all = digits_all t; least_len = omega arith; most_len = omega arith };
      is = refl;
    })

pub record TakesNumber (negative : Bool) (t : List ℕ) (x : Bare × List ℕ) : Type 0 where
  pub text : List ℕ
  pub parts : t ≡ text ++ x.1
  pub is : IsBare (sign negative ++ text) x.0

unsigned_takes : (negative : Bool) (t : List ℕ) (x : Bare × List ℕ) → unsigned_at negative t ≡ Some x → TakesNumber negative t x
unfolding unsigned_at
unsigned_takes negative t x e =
    let whole = front is_digit t in
    let left = behind is_digit t in
    let y : Bare × List ℕ = (Integer (signed negative (number whole)), left) in
    let n : length (front is_digit t) ≡ prefix_len is_digit t = length-prefix_len is_digit t in
    elim (chosen (begins 46 left) (decimal_at negative whole (drop 1 left)) (cond (within (prefix_len is_digit t) 15) (Some y) None) (Some x) e) [
      | inl p ↦
          let d = decimal_takes negative whole (drop 1 left) x (digits_all t) p.1 in
          let apart : t ≡ whole ++ (46 ∷ (d.part ++ x.1)) = parts is_digit t
          ∙ ap (λ (r : List ℕ). whole ++ r) (begun 46 left p.0 ∙ ap (λ (r : List ℕ). 46 ∷ r) d.parts) in
          record {
            text = whole ++ 46 ∷ d.part;
            parts = apart ∙ sym (append_assoc whole (46 ∷ d.part) x.1);
            is = subst (IsBare (sign negative ++ (whole ++ 46 ∷ d.part))) (sym d.is) (record {
              negative = negative;
              whole = whole;
              part = d.part;
              whole_fits = d.whole_fits;
              part_fits = d.part_fits;
              is = sym (append_assoc (sign negative) whole (46 ∷ d.part));
              value = refl;
            });
          }
      | inr p ↦
          let g = given (within (prefix_len is_digit t) 15) (Some y) x p.1 in
          let a = within_bounds (prefix_len is_digit t) 15 g.0 in
          subst (TakesNumber negative t) (some_is y x g.1) (record {
            text = whole;
            parts = parts is_digit t;
            is = record {
              negative = negative;
              digits = whole;
              fits = record { all = digits_all t; least_len = omega arith; most_len = omega arith };
              is = refl;
              value = refl;
            };
          })
    ]

pub record TakesBare (t : List ℕ) (x : Bare × List ℕ) : Type 0 where
  pub text : List ℕ
  pub parts : t ≡ text ++ x.1
  pub is : IsBare text x.0

pub number_takes : (t : List ℕ) (x : Bare × List ℕ) → number_at t ≡ Some x → TakesBare t x
unfolding number_at
number_takes t x e =
    elim (chosen (begins 45 t) (unsigned_at true (drop 1 t)) (unsigned_at false t) (Some x) e) [
      | inl p ↦
          let n = unsigned_takes true (drop 1 t) x p.1 in
          record { text = 45 ∷ n.text; parts = begun 45 t p.0 ∙ ap (λ (r : List ℕ). 45 ∷ r) n.parts; is = n.is }
      | inr p ↦ let n = unsigned_takes false t x p.1 in record { text = n.text; parts = n.parts; is = n.is }
    ]

-- a digit comes first
pub first_digit : (digits : List ℕ) → 1 ≤ length digits → list_all is_digit digits ≡ true → (c : ℕ) × (cs : List ℕ) × (digits ≡ c ∷ cs) × (is_digit c ≡ true)
first_digit [] len all = absurd (omega arith)
first_digit (c ∷ cs) len all = (c, cs, refl, (and_parts (is_digit c) (list_all is_digit cs) all).0)

digit_no_sign : (digits rest : List ℕ) → 1 ≤ length digits → list_all is_digit digits ≡ true → begins 45 (digits ++ rest) ≡ false
digit_no_sign digits rest len all =
    let d = first_digit digits len all in
    subst (λ (ds : List ℕ). begins 45 (ds ++ rest) ≡ false) (sym d.2) (let h = d.3 in grind (arith, nat_tests, h))

signed_again : (negative : Bool) (digits tail : List ℕ) (y : Option (Bare × List ℕ)) → 1 ≤ length digits → list_all is_digit digits ≡ true
    → unsigned_at negative (digits ++ tail) ≡ y → number_at (sign negative ++ (digits ++ tail)) ≡ y
unfolding number_at
signed_again true digits tail y len all e = e
signed_again false digits tail y len all e = rw (digit_no_sign digits tail len all) e

pub integer_again : (text : List ℕ) (n : ℤ) (rest : List ℕ) → IsInteger text n → ends rest ≡ true → number_at (text ++ rest) ≡ Some (Integer n, rest)
integer_again text n rest i e =
    let regrouped : text ++ rest ≡ sign i.negative ++ (i.digits ++ rest) = ap (λ (t : List ℕ). t ++ rest) i.is ∙ append_assoc (sign i.negative) i.digits rest in
    ap number_at regrouped ∙ signed_again i.negative i.digits rest _ i.fits.least_len i.fits.all (unsigned_again i.negative i.digits rest i.fits e)
    ∙ ap (λ (m : ℤ). Some (Integer m, rest)) (sym i.value)

pub decimal_text_again : (text : List ℕ) (n : ℤ) (rest : List ℕ) → IsDecimal text n → ends rest ≡ true → number_at (text ++ rest) ≡ Some (Decimal n, rest)
decimal_text_again text n rest d e =
    let tail : List ℕ = 46 ∷ (d.part ++ rest) in
    let regrouped : text ++ rest ≡ sign d.negative ++ (d.whole ++ tail) = ap (λ (t : List ℕ). t ++ rest) d.is
    ∙ append_assoc (sign d.negative ++ d.whole) (46 ∷ d.part) rest ∙ append_assoc (sign d.negative) d.whole tail in
    ap number_at regrouped ∙ signed_again d.negative d.whole tail _ d.whole_fits.least_len d.whole_fits.all
    (pointed_again d.negative d.whole d.part rest d.whole_fits d.part_fits e) ∙ ap (λ (m : ℤ). Some (Decimal m, rest)) (sym d.value)
