-- How texts of the grammar begin, and how many members a text can have.
use Rattle.std.proofs.Common.{◌≡◌, ℕ, suc, ◌+◌, ◌≤◌, ◌==◌, Bool, true, false, not, ◌||◌, List, [], ◌∷◌, ◌++◌, length, Some, refl, sym, ap, subst, ◌∙◌, arith, true≢false}
use Rattle.std.proofs.lemmas.Bool.{not-true, not_from_false, or_parts}
use Rattle.std.specs.Prelude.{is_none}
use Rattle.std.specs.List.{list_any}
use Rattle.std.proofs.lemmas.Bool.Decides.{nat_tests}
use Rattle.std.proofs.lemmas.List.{length-append}
use Rattle.structured_fields.specs.declared.bare.Bare.{Bare}
use Rattle.structured_fields.specs.declared.item.Item.{Item}
use Rattle.structured_fields.specs.Letters.{is_space}
use Rattle.structured_fields.specs.Grammar.{IsBare, IsItem, AreFurther, AreSeparated}
use Rattle.structured_fields.specs.Reading.{begins, number_at, unsigned_at, bare_at}
use Rattle.structured_fields.proofs.Fronts.{stops}
use Rattle.structured_fields.proofs.Bares.{bare_text_again}
use Rattle.structured_fields.proofs.Items.{any_holds}

-- the text isn't empty, and its first byte passes
pub record Opens (p : ℕ → Bool) (text : List ℕ) : Type 0 where
  pub first : ℕ
  pub others : List ℕ
  pub is : text ≡ first ∷ others
  pub passes : p first ≡ true

pub opens_more : (p : ℕ → Bool) (text rest : List ℕ) → Opens p text → Opens p (text ++ rest)
opens_more p text rest o = record { first = o.first; others = o.others ++ rest; is = ap (λ (t : List ℕ). t ++ rest) o.is; passes = o.passes }

pub opens_stops : (p : ℕ → Bool) (text : List ℕ) → Opens (λ c. not (p c)) text → stops p text ≡ true
opens_stops p text o = ap (stops p) o.is ∙ o.passes

pub opens_begins : (p : ℕ → Bool) (k : ℕ) (text : List ℕ) → Opens p text → p k ≡ false → begins k text ≡ false
opens_begins p k text o h = ap (begins k) o.is ∙ by (o.first == k) refl
  where
    by : (b : Bool) → (o.first == k) ≡ b → b ≡ false
    by false e = refl
    by true e = let same : o.first ≡ k = grind (arith, nat_tests) in absurd (true≢false (sym o.passes ∙ ap p same ∙ h))

pub opens_some : (p : ℕ → Bool) (text : List ℕ) → Opens p text → 1 ≤ length text
opens_some p text o = let e : length text ≡ suc (length o.others) = ap length o.is in omega arith

-- no space, tab or parenthesis
abbrev pub is_plain : ℕ → Bool
is_plain c = not (list_any (λ k. c == k) (32 ∷ 9 ∷ 40 ∷ 41 ∷ []))

pub plain_no_space : (c : ℕ) → is_plain c ≡ true → not (is_space c) ≡ true
plain_no_space c h = not_from_false (c == 32) (or_parts (c == 32) _ (not-true _ h)).0

pub plain_no_ows : (c : ℕ) → is_plain c ≡ true → not ((c == 32) || (c == 9)) ≡ true
plain_no_ows c h = grind (arith, nat_tests)

pub opens_to : (p q : ℕ → Bool) (text : List ℕ) → ((c : ℕ) → p c ≡ true → q c ≡ true) → Opens p text → Opens q text
opens_to p q text h o = record { first = o.first; others = o.others; is = o.is; passes = h o.first o.passes }

pub bare_opens : (text : List ℕ) (v : Bare) → IsBare text v → Opens is_plain text
unfolding bare_at number_at unsigned_at
bare_opens [] v is = let e = bare_text_again [] v [] is refl in absurd cc
bare_opens (c ∷ t) v is = record
    { first = c; others = t; is = refl; passes = by (list_any (λ k. c == k) (32 ∷ 9 ∷ 40 ∷ 41 ∷ [])) refl (bare_text_again (c ∷ t) v [] is refl) }
  where
    by : (b : Bool) → list_any (λ k. c == k) (32 ∷ 9 ∷ 40 ∷ 41 ∷ []) ≡ b → bare_at (c ∷ (t ++ [])) ≡ Some (v, []) → not b ≡ true
    by false h e = refl
    by true h e =
        let none : is_none (bare_at (c ∷ (t ++ []))) ≡ true = any_holds (λ k. is_none (bare_at (k ∷ (t ++ [])))) c (32 ∷ 9 ∷ 40 ∷ 41 ∷ []) h refl in
        absurd (true≢false (sym none ∙ ap is_none e))

pub item_opens : (text : List ℕ) (v : Item) → IsItem text v → Opens is_plain text
item_opens text v i = subst (Opens is_plain) (sym i.is) (opens_more is_plain i.bare_text i.params_text (bare_opens i.bare_text v.bare i.bare))

module _ {M : Type 0} (IsBetween : List ℕ → Type 0) (Is : List ℕ → M → Type 0) (some : (text : List ℕ) (m : M) → Is text m → 1 ≤ length text) where
  -- each member takes a byte at least
  pub count_further : (ms : List M) (text : List ℕ) → AreFurther IsBetween Is text ms → length ms ≤ length text
  count_further [] text are = omega arith
  count_further (m ∷ ms) text are =
      let one = some are.1 m are.5 in
      let rest = count_further ms are.2 are.6 in
      let long : length text ≡ length are.0 + (length are.1 + length are.2) = ap length are.3 ∙ length-append are.0 (are.1 ++ are.2)
      ∙ ap (λ (n : ℕ). length are.0 + n) (length-append are.1 are.2) in
      omega arith

  pub count_separated : (ms : List M) (text : List ℕ) → AreSeparated IsBetween Is text ms → length ms ≤ length text
  count_separated [] text are = omega arith
  count_separated (m ∷ ms) text are =
      let one = some are.0 m are.3 in
      let rest = count_further ms are.1 are.4 in
      let long : length text ≡ length are.0 + length are.1 = ap length are.2 ∙ length-append are.0 are.1 in
      omega arith
