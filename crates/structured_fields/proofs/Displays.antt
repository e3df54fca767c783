-- Display strings.
use Rattle.std.proofs.Common.{◌≡◌, ℕ, suc, ◌+◌, ◌-◌, ◌*◌, ◌/◌, ◌%◌, ◌<◌, ◌≤◌, ◌==◌, Bool, true, false, cond, ◌&&◌, ◌⊎◌, ⊎_elim, inl, inr, List, [], ◌∷◌, ◌++◌, length, drop, get_or, Option, Some, None, refl, sym, ap, subst, ◌∙◌, arith, append_assoc}
use Rattle.std.specs.Prelude.{nat_le, nat_lt, IsUtf8}
use Rattle.std.specs.Option.{option_map}
use Rattle.std.specs.List.{list_all, flat_map}
use Rattle.std.specs.Str.{is_utf8}
use Rattle.std.specs.Char.{digit_char}
use Rattle.std.proofs.lemmas.Bool.{and_parts, false_from_ne_true}
use Rattle.std.proofs.lemmas.Bool.Decides.{nat_tests}
use Rattle.std.proofs.lemmas.List.{drop_more, drop_all, append-nil}
use Rattle.std.proofs.lemmas.List.Concat.{flat_map-cons}
use Rattle.std.proofs.lemmas.List.Folds.{list_all-append}
use Rattle.std.proofs.lemmas.Str.{IsUtf8-from_is_utf8, is_utf8-from_IsUtf8}
use Rattle.std.proofs.Math.Utf8.{scalar, scalars, next, encode, encodes, scalar_cases}
use Rattle.base64.specs.GeneralPurpose.{IsBytes}
use Rattle.structured_fields.specs.declared.display_reading.Awaits.{Awaits}
use Rattle.structured_fields.specs.declared.display_reading.Awaits.TheVariants.{Character, FirstDigit, SecondDigit}
use Rattle.structured_fields.specs.Letters.{is_digit, is_shown}
use Rattle.structured_fields.specs.Grammar.{percent, AreShown}
use Rattle.structured_fields.specs.Canonical.{shown}
use Rattle.structured_fields.specs.Reading.{◌>>=◌, hex_value, is_byte, byte_of, display_bytes, only_utf8, display_text, is_not_quote}
use Rattle.structured_fields.proofs.Base64.{pass_bytes}
use Rattle.structured_fields.proofs.Fronts.{chosen, given, some_is, bind_some, mapped}

-- ---- UTF-8 is bytes

encode_passes : (c : ℕ) → scalar c ≡ true → list_all is_byte (encode c) ≡ true
unfolding encode
encode_passes c s = by (nat_lt c 128) (nat_lt c 2048) (nat_lt c 65536) refl refl refl
  where
    most : c < 1114112
    most = ⊎_elim (λ h. omega arith) (λ h. h.1) (scalar_cases c s)

    byte : (b : ℕ) → b < 256 → is_byte b ≡ true
    byte b h = grind (arith, nat_tests)

    by : (x y z : Bool) → nat_lt c 128 ≡ x → nat_lt c 2048 ≡ y → nat_lt c 65536 ≡ z
        → list_all is_byte (cond x (c ∷ [])
        (cond y ((192 + c / 64) ∷ next c ∷ [])
        (cond z ((224 + c / 4096) ∷ next (c / 64) ∷ next c ∷ []) ((240 + c / 262144) ∷ next (c / 4096) ∷ next (c / 64) ∷ next c ∷ [])))) ≡ true
    by true y z p q r =
        let small : c < 128 = grind (arith, nat_tests, p) in
        rw (byte c (omega arith)) refl
    by false true z p q r =
        let small : c < 2048 = grind (arith, nat_tests, q) in
        rw (byte (192 + c / 64) (omega arith), byte (next c) (omega arith)) refl
    by false false true p q r =
        let small : c < 65536 = grind (arith, nat_tests, r) in
        rw (byte (224 + c / 4096) (omega arith), byte (next (c / 64)) (omega arith), byte (next c) (omega arith)) refl
    by false false false p q r =
        let small : c < 1114112 = most in
        rw (byte (240 + c / 262144) (omega arith), byte (next (c / 4096)) (omega arith), byte (next (c / 64)) (omega arith), byte (next c) (omega arith)) refl

encodes_pass : (cs : List ℕ) → scalars cs ≡ true → list_all is_byte (encodes cs) ≡ true
encodes_pass [] s = refl
encodes_pass (c ∷ cs) s =
    let b = and_parts (scalar c) (scalars cs) s in
    list_all-append is_byte (encode c) (encodes cs) ∙ rw (encode_passes c b.0, encodes_pass cs b.1) refl

utf8_bytes : (s : List ℕ) → IsUtf8 s → IsBytes s
utf8_bytes s u = subst IsBytes u.1.1 (pass_bytes (encodes u.0) (encodes_pass u.0 u.1.0))

-- ---- digits

digit_shape : (n : ℕ) → n < 16 → (hex_value (digit_char n) ≡ Some n) × (is_not_quote (digit_char n) ≡ true)
digit_shape n h = by (is_digit (digit_char n)) (nat_le 97 (digit_char n) && nat_le (digit_char n) 102) refl refl
  where
    by : (a b : Bool) → is_digit (digit_char n) ≡ a → (nat_le 97 (digit_char n) && nat_le (digit_char n) 102) ≡ b
        → (cond a (Some (digit_char n - 48)) (cond b (Some (digit_char n - 87)) None) ≡ Some n) × (is_not_quote (digit_char n) ≡ true)
    by a b p q = (grind (arith, nat_tests), grind (arith, nat_tests))

value_shape : (c n : ℕ) → hex_value c ≡ Some n → (n < 16) × (digit_char n ≡ c)
value_shape c n e = grind (arith, nat_tests)

byte_again : (b : ℕ) → b < 256 → byte_of (digit_char (b / 16)) (digit_char (b % 16)) ≡ Some b
byte_again b h =
    let first = digit_shape (b / 16) (omega arith) in
    let second = digit_shape (b % 16) (omega arith) in
    let sum : 16 * (b / 16) + b % 16 ≡ b = omega arith in
    rw (first.0, second.0, sum) refl

byte_takes : (c d b : ℕ) → byte_of c d ≡ Some b → percent b ≡ 37 ∷ c ∷ d ∷ []
byte_takes c d b e =
    let x = bind_some (hex_value c) (λ n. hex_value d >>= λ m. Some (16 * n + m)) b e in
    let y = bind_some (hex_value d) (λ m. Some (16 * x.0 + m)) b x.2 in
    let first = value_shape c x.0 x.1 in
    let second = value_shape d y.0 y.1 in
    let sum : 16 * x.0 + y.0 ≡ b = some_is (16 * x.0 + y.0) b y.2 in
    let high : b / 16 ≡ x.0 = omega arith in
    let low : b % 16 ≡ y.0 = omega arith in
    rw (high, low, first.1, second.1) refl

-- ---- what is written is read

tail_bytes : (b : ℕ) (s : List ℕ) → IsBytes (b ∷ s) → IsBytes s
tail_bytes b s h i = h (suc i)

plain_test : (b : ℕ) → is_shown b ≡ true → ((b == 37) ≡ false) × (is_not_quote b ≡ true)
plain_test b h = (grind (arith, nat_tests), grind (arith, nat_tests))

shown_again : (s text : List ℕ) → IsBytes s → AreShown text s → display_bytes Character text ≡ Some s
unfolding display_bytes
shown_again [] text bytes are = rw are refl
shown_again (b ∷ s) text bytes are = by are.0 are.1 (shown_again s are.0 (tail_bytes b s bytes) are.2)
  where
    by : (rest : List ℕ) → ((is_shown b ≡ true) × (text ≡ b ∷ rest)) ⊎ (text ≡ percent b ++ rest) → display_bytes Character rest ≡ Some s
        → display_bytes Character text ≡ Some (b ∷ s)
    by rest (inl p) again = ap (display_bytes Character) p.1 ∙ rw (p.0, (plain_test b p.0).0, again) refl
    by rest (inr p) again = ap (display_bytes Character) p ∙ rw (byte_again b (bytes 0), again) refl

-- no quote stands among them
shown_no_quote : (s text : List ℕ) → IsBytes s → AreShown text s → list_all is_not_quote text ≡ true
shown_no_quote [] text bytes are = rw are refl
shown_no_quote (b ∷ s) text bytes are = by are.0 are.1 (shown_no_quote s are.0 (tail_bytes b s bytes) are.2)
  where
    by : (rest : List ℕ) → ((is_shown b ≡ true) × (text ≡ b ∷ rest)) ⊎ (text ≡ percent b ++ rest) → list_all is_not_quote rest ≡ true
        → list_all is_not_quote text ≡ true
    by rest (inl p) again = ap (list_all is_not_quote) p.1 ∙ rw ((plain_test b p.0).1, again) refl
    by rest (inr p) again =
        let small : b < 256 = bytes 0 in
        let first = (digit_shape (b / 16) (omega arith)).1 in
        let second = (digit_shape (b % 16) (omega arith)).1 in
        ap (list_all is_not_quote) p ∙ rw (first, second, again) refl

pub display_no_quote : (s text : List ℕ) → IsUtf8 s → AreShown text s → list_all is_not_quote text ≡ true
display_no_quote s text utf8 are = shown_no_quote s text (utf8_bytes s utf8) are

-- ---- what is read is so written

-- what was read of an escape that isn't whole
abbrev begun_escape : Awaits → List ℕ
begun_escape Character = []
begun_escape FirstDigit = 37 ∷ []
begun_escape (SecondDigit first) = 37 ∷ first ∷ []

shown_takes : (awaits : Awaits) (t s : List ℕ) → display_bytes awaits t ≡ Some s → AreShown (begun_escape awaits ++ t) s
unfolding display_bytes
shown_takes Character [] s e = subst (AreShown []) (some_is [] s e) refl
shown_takes FirstDigit [] s e = absurd cc
shown_takes (SecondDigit first) [] s e = absurd cc
shown_takes FirstDigit (c ∷ t) s e = shown_takes (SecondDigit c) t s e
shown_takes Character (c ∷ t) s e =
    elim (chosen (c == 37) (display_bytes FirstDigit t) (cond (is_shown c) (option_map (λ s. c ∷ s) (display_bytes Character t)) None) (Some s) e) [
      | inl p ↦
          let k : c ≡ 37 = let q = p.0 in grind (arith, nat_tests, q) in
          subst (λ (d : ℕ). AreShown (d ∷ t) s) (sym k) (shown_takes FirstDigit t s p.1)
      | inr p ↦
          let g = given (is_shown c) (option_map (λ s. c ∷ s) (display_bytes Character t)) s p.1 in
          let m = mapped (λ (s : List ℕ). c ∷ s) (display_bytes Character t) s g.1 in
          subst (AreShown (c ∷ t)) m.2 (t, inl (g.0, refl), shown_takes Character t m.0 m.1)
    ]
shown_takes (SecondDigit first) (c ∷ t) s e =
    let x = bind_some (byte_of first c) (λ b. option_map (λ s. b ∷ s) (display_bytes Character t)) s e in
    let m = mapped (λ (s : List ℕ). x.0 ∷ s) (display_bytes Character t) s x.2 in
    subst (AreShown (37 ∷ first ∷ c ∷ t)) m.2 (t, inr (ap (λ (u : List ℕ). u ++ t) (sym (byte_takes first c x.0 x.1))), shown_takes Character t m.0 m.1)

pub display_again : (s text : List ℕ) → IsUtf8 s → AreShown text s → display_text text ≡ Some s
unfolding display_text
display_again s text utf8 are = rw (shown_again s text (utf8_bytes s utf8) are, is_utf8-from_IsUtf8 s utf8) refl

pub display_takes : (text s : List ℕ) → display_text text ≡ Some s → IsUtf8 s × AreShown text s
unfolding display_text
display_takes text s e = by (display_bytes Character text) refl e
  where
    by : (o : Option (List ℕ)) → display_bytes Character text ≡ o → only_utf8 o ≡ Some s → IsUtf8 s × AreShown text s
    by None p e = absurd cc
    by (Some b) p e =
        let g = given (is_utf8 b) (Some b) s e in
        subst (λ (u : List ℕ). IsUtf8 u × AreShown text u) (some_is b s g.1) (IsUtf8-from_is_utf8 b g.0, shown_takes Character text b p)

-- ---- what is written is so shown

pub shown_are : (s : List ℕ) → AreShown (flat_map shown s) s
shown_are [] = refl
shown_are (b ∷ s) = (flat_map shown s, by (is_shown b) refl, shown_are s)
  where
    by : (h : Bool) → is_shown b ≡ h
        → ((is_shown b ≡ true) × (flat_map shown (b ∷ s) ≡ b ∷ flat_map shown s)) ⊎ (flat_map shown (b ∷ s) ≡ percent b ++ flat_map shown s)
    by true h = inl (h, flat_map-cons shown b s ∙ rw h refl)
    by false h = inr (flat_map-cons shown b s ∙ rw h refl)

-- ---- what the reader held before

abbrev pub with_bytes : List ℕ → Option (List ℕ) → Option (List ℕ)
with_bytes held read = option_map (λ s. held ++ s) read

pub with_none : (read : Option (List ℕ)) → with_bytes [] read ≡ read
with_none None = refl
with_none (Some s) = refl

with_more : (held : List ℕ) (b : ℕ) (read : Option (List ℕ)) → with_bytes held (option_map (λ s. b ∷ s) read) ≡ with_bytes (held ++ b ∷ []) read
with_more held b None = refl
with_more held b (Some s) = ap (λ (t : List ℕ). Some t) (sym (append_assoc held (b ∷ []) s))

module _ (held text : List ℕ) (i : ℕ) (total : Option (List ℕ)) (within : i < length text) where
  opened : (awaits : Awaits) → display_bytes awaits (drop i text) ≡ display_bytes awaits (get_or text i 0 ∷ drop (i + 1) text)
  opened awaits = ap (display_bytes awaits) (drop_more text i 0 within)

  pub percent_next : with_bytes held (display_bytes Character (drop i text)) ≡ total → get_or text i 0 ≡ 37
      → with_bytes held (display_bytes FirstDigit (drop (i + 1) text)) ≡ total
  unfolding display_bytes
  percent_next so_far is =
      let test : (get_or text i 0 == 37) ≡ true = grind (arith, nat_tests) in
      sym (ap (with_bytes held) (opened Character ∙ rw test refl)) ∙ so_far

  pub shown_next : with_bytes held (display_bytes Character (drop i text)) ≡ total → is_shown (get_or text i 0) ≡ true
      → with_bytes (held ++ get_or text i 0 ∷ []) (display_bytes Character (drop (i + 1) text)) ≡ total
  unfolding display_bytes
  shown_next so_far is =
      let test : (get_or text i 0 == 37) ≡ false = (plain_test (get_or text i 0) is).0 in
      sym (ap (with_bytes held) (opened Character ∙ rw (is, test) refl) ∙ with_more held (get_or text i 0) (display_bytes Character (drop (i + 1) text)))
      ∙ so_far

  pub refused_next : with_bytes held (display_bytes Character (drop i text)) ≡ total → (get_or text i 0 ≡ 37 → ⊥) → is_shown (get_or text i 0) ≡ false
      → total ≡ None
  unfolding display_bytes
  refused_next so_far other is =
      let test : (get_or text i 0 == 37) ≡ false = grind (arith, nat_tests) in
      let none : display_bytes Character (drop i text) ≡ None = opened Character ∙ rw (is, test) refl in
      sym so_far ∙ ap (with_bytes held) none

  pub first_next : with_bytes held (display_bytes FirstDigit (drop i text)) ≡ total
      → with_bytes held (display_bytes (SecondDigit (get_or text i 0)) (drop (i + 1) text)) ≡ total
  unfolding display_bytes
  first_next so_far = sym (ap (with_bytes held) (opened FirstDigit)) ∙ so_far

  pub second_next : (first b : ℕ) → with_bytes held (display_bytes (SecondDigit first) (drop i text)) ≡ total → byte_of first (get_or text i 0) ≡ Some b
      → with_bytes (held ++ b ∷ []) (display_bytes Character (drop (i + 1) text)) ≡ total
  unfolding display_bytes
  second_next first b so_far is =
      let read : display_bytes (SecondDigit first) (drop i text) ≡ option_map (λ s. b ∷ s) (display_bytes Character (drop (i + 1) text)) =
      opened (SecondDigit first) ∙ ap (λ o. o >>= λ b. option_map (λ s. b ∷ s) (display_bytes Character (drop (i + 1) text))) is in
      sym (ap (with_bytes held) read ∙ with_more held b (display_bytes Character (drop (i + 1) text))) ∙ so_far

  pub no_byte : (first : ℕ) → with_bytes held (display_bytes (SecondDigit first) (drop i text)) ≡ total → byte_of first (get_or text i 0) ≡ None → total ≡ None
  unfolding display_bytes
  no_byte first so_far is =
      let none : display_bytes (SecondDigit first) (drop i text) ≡ None =
      opened (SecondDigit first) ∙ ap (λ o. o >>= λ b. option_map (λ s. b ∷ s) (display_bytes Character (drop (i + 1) text))) is in
      sym so_far ∙ ap (with_bytes held) none

module _ (held text : List ℕ) (i : ℕ) (total : Option (List ℕ)) (ended : length text ≤ i) where
  pub whole : with_bytes held (display_bytes Character (drop i text)) ≡ total → total ≡ Some held
  unfolding display_bytes
  whole so_far =
      let read : display_bytes Character (drop i text) ≡ Some [] = ap (display_bytes Character) (drop_all i text ended) in
      sym so_far ∙ ap (with_bytes held) read ∙ ap (λ (s : List ℕ). Some s) (append-nil held)

  pub cut : (awaits : Awaits) → (awaits ≡ Character → ⊥) → with_bytes held (display_bytes awaits (drop i text)) ≡ total → total ≡ None
  unfolding display_bytes
  cut Character other so_far = absurd (other refl)
  cut FirstDigit other so_far =
      let read : display_bytes FirstDigit (drop i text) ≡ None = ap (display_bytes FirstDigit) (drop_all i text ended) in
      sym so_far ∙ ap (with_bytes held) read
  cut (SecondDigit first) other so_far =
      let read : display_bytes (SecondDigit first) (drop i text) ≡ None = ap (display_bytes (SecondDigit first)) (drop_all i text ended) in
      sym so_far ∙ ap (with_bytes held) read

-- ---- UTF-8 as a test

pub valid_utf8 : (s : List ℕ) → IsUtf8 s → is_utf8 s ≡ true
valid_utf8 s h = is_utf8-from_IsUtf8 s h

pub invalid_utf8 : (s : List ℕ) → (IsUtf8 s → ⊥) → is_utf8 s ≡ false
invalid_utf8 s h = false_from_ne_true (is_utf8 s) (λ e. h (IsUtf8-from_is_utf8 s e))
