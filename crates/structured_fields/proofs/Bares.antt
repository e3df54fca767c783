-- Bare items and keys.
use Rattle.std.proofs.Common.{◌≡◌, ℕ, suc, ◌+◌, ◌≤◌, ◌==◌, Bool, true, false, cond, ◌||◌, inl, inr, List, [], ◌∷◌, ◌++◌, length, drop, Option, Some, None, refl, sym, ap, subst, ◌∙◌, arith, append_assoc, ℤ}
use Rattle.std.proofs.lemmas.Bool.{and_parts}
use Rattle.std.specs.Option.{option_map}
use Rattle.std.specs.List.{prefix_len, list_all, flat_map}
use Rattle.std.proofs.lemmas.Bool.Decides.{nat_tests}
use Rattle.std.proofs.lemmas.List.{get_or-drop}
use Rattle.base64.specs.GeneralPurpose.{encode_of, IsBytes}
use Rattle.base64.specs.Engines.{standard, standard_no_pad}
use Rattle.base64.proofs.EngineFacts.{front_bytes}
use Rattle.structured_fields.specs.declared.bare.Bare.{Bare}
use Rattle.structured_fields.specs.declared.bare.Bare.TheVariants.{Integer, Decimal, Str, Token, Binary, Boolean, Date, Display}
use Rattle.structured_fields.specs.Letters.{is_digit, is_letter, is_key_start, is_key_byte, is_key, is_token_start, is_token_byte, is_token, sign}
use Rattle.structured_fields.specs.Grammar.{IsBare, IsInteger, IsDecimal, IsString, IsBinary, IsDate, IsDisplay, boolean_text, in_string}
use Rattle.structured_fields.specs.Reading.{front, behind, begins, is_not_colon, key_at, string_rest, decoded, binary_rest, boolean_rest, as_date, date_at, is_not_quote, display_text, display_rest, display_at, ◌>>=◌, number_at, bare_at}
use Rattle.structured_fields.proofs.Fronts.{front_again, behind_again, parts, chosen, bind_some, mapped, given, some_is, begun, ends, stops}
use Rattle.structured_fields.proofs.Runs.{front_all}
use Rattle.structured_fields.proofs.Numbers.{TakesBare, number_takes, integer_again, decimal_text_again, first_digit}
use Rattle.structured_fields.proofs.Base64.{padded_again, bare_again, decoded_takes, no_colon}
use Rattle.structured_fields.proofs.Strings.{string_again, string_takes}
use Rattle.structured_fields.proofs.Displays.{display_again, display_no_quote, display_takes}

-- bytes of a part are bytes
pub rest_bytes : (a b : List ℕ) → IsBytes (a ++ b) → IsBytes b
rest_bytes [] b h = h
rest_bytes (c ∷ a) b h = rest_bytes a b (λ i. h (suc i))

pub drop_bytes : (n : ℕ) (t : List ℕ) → IsBytes t → IsBytes (drop n t)
drop_bytes n t h i = rw (get_or-drop n t i 0) (h (n + i))

-- ---- keys

pub record TakesKey (t : List ℕ) (x : List ℕ × List ℕ) : Type 0 where
  pub parts : t ≡ x.0 ++ x.1
  pub key : is_key x.0 ≡ true

start_is_key : (c : ℕ) → is_key_start c ≡ true → is_key_byte c ≡ true
start_is_key c h = rw h refl

pub key_takes : (t : List ℕ) (x : List ℕ × List ℕ) → key_at t ≡ Some x → TakesKey t x
unfolding key_at
key_takes [] x e = absurd cc
key_takes (c ∷ t) x e =
    let g = given (is_key_start c) (Some (front is_key_byte (c ∷ t), behind is_key_byte (c ∷ t))) x e in
    let k : is_key_byte c ≡ true = start_is_key c g.0 in
    let one : 1 + prefix_len is_key_byte t ≡ suc (prefix_len is_key_byte t) = omega arith in
    let at : front is_key_byte (c ∷ t) ≡ c ∷ front is_key_byte t = rw (k, one) refl in
    subst (TakesKey (c ∷ t)) (some_is (front is_key_byte (c ∷ t), behind is_key_byte (c ∷ t)) x g.1) (record {
      parts = parts is_key_byte (c ∷ t);
      key = ap is_key at ∙ rw (g.0, front_all is_key_byte t) refl;
    })

pub key_again : (name rest : List ℕ) → is_key name ≡ true → stops is_key_byte rest ≡ true → key_at (name ++ rest) ≡ Some (name, rest)
unfolding key_at
key_again [] rest key stop = absurd cc
key_again (c ∷ name) rest key stop =
    let b = and_parts (is_key_start c) (list_all is_key_byte name) key in
    let all : list_all is_key_byte (c ∷ name) ≡ true = rw (start_is_key c b.0, b.1) refl in
    let at = front_again is_key_byte (c ∷ name) rest all stop in
    let left = behind_again is_key_byte (c ∷ name) rest all stop in
    ap (λ (k : Bool). cond k (Some (front is_key_byte (c ∷ (name ++ rest)), behind is_key_byte (c ∷ (name ++ rest)))) None) b.0 ∙ (λ i. Some (at i, left i))

-- ---- tokens

token_start_is : (c : ℕ) → is_token_start c ≡ true → is_token_byte c ≡ true
token_start_is c h = by (is_letter c) (c == 42) refl refl h
  where
    by : (a b : Bool) → is_letter c ≡ a → (c == 42) ≡ b → (a || b) ≡ true → is_token_byte c ≡ true
    by true b p q e = rw p refl
    by false true p q e = let k : c ≡ 42 = grind (arith, nat_tests) in rw k refl
    by false false p q e = absurd cc

-- ---- bare items

abbrev bare_rest : ℕ → List ℕ → Option (Bare × List ℕ)
bare_rest c t = cond (is_token_start c) (Some (Token (front is_token_byte (c ∷ t)), behind is_token_byte (c ∷ t))) (number_at (c ∷ t))

-- dates and display strings, and what is neither
abbrev added_rest : ℕ → List ℕ → Option (Bare × List ℕ)
added_rest c t = cond (c == 64) (date_at t) (cond (c == 37) (display_at t) (bare_rest c t))

quoted_takes : (c : ℕ) (t : List ℕ) (x : Bare × List ℕ) → (c == 34) ≡ true → option_map (λ y. (Str y.0, y.1)) (string_rest false t) ≡ Some x
    → TakesBare (c ∷ t) x
quoted_takes c t x q e =
    let k : c ≡ 34 = grind (arith, nat_tests) in
    let m = mapped (λ (y : List ℕ × List ℕ). (Str y.0, y.1)) (string_rest false t) x e in
    let s = string_takes false t m.0 m.1 in
    subst (TakesBare (c ∷ t)) m.2 (record {
      text = 34 ∷ flat_map in_string m.0.0 ++ 34 ∷ [];
      parts = ap (λ (d : ℕ). d ∷ t) k ∙ ap (λ (r : List ℕ). 34 ∷ r) (s.parts ∙ sym (append_assoc (flat_map in_string m.0.0) (34 ∷ []) m.0.1));
      is = record { all = s.all; is = refl };
    })

binary_takes : (c : ℕ) (t : List ℕ) (x : Bare × List ℕ) → IsBytes t → (c == 58) ≡ true → binary_rest t ≡ Some x → TakesBare (c ∷ t) x
unfolding binary_rest
binary_takes c t x fits q e =
    let k : c ≡ 58 = grind (arith, nat_tests) in
    let left = behind is_not_colon t in
    let g = given (begins 58 left) (option_map (λ b. (Binary b, drop 1 left)) (decoded (front is_not_colon t))) x e in
    let m = mapped (λ (b : List ℕ). (Binary b, drop 1 left)) (decoded (front is_not_colon t)) x g.1 in
    let whole = parts is_not_colon t in
    let d = decoded_takes (front is_not_colon t) m.0 (front_bytes (front is_not_colon t) left (subst IsBytes whole fits)) m.1 in
    let text = front is_not_colon t in
    subst (TakesBare (c ∷ t)) m.2 (record {
      text = 58 ∷ text ++ 58 ∷ [];
      parts = ap (λ (b : ℕ). b ∷ t) k
          ∙ ap (λ (r : List ℕ). 58 ∷ r) (whole ∙ ap (λ (r : List ℕ). text ++ r) (begun 58 left g.0) ∙ sym (append_assoc text (58 ∷ []) (drop 1 left)));
      is = record { bytes = d.bytes; padded = d.padded; is = ap (λ (s : List ℕ). 58 ∷ s ++ 58 ∷ []) d.is };
    })

boolean_takes : (c : ℕ) (t : List ℕ) (x : Bare × List ℕ) → (c == 63) ≡ true → boolean_rest t ≡ Some x → TakesBare (c ∷ t) x
unfolding boolean_rest
boolean_takes c t x q e =
    let k : c ≡ 63 = grind (arith, nat_tests) in
    elim (chosen (begins 48 t) (Some (Boolean false, drop 1 t)) (cond (begins 49 t) (Some (Boolean true, drop 1 t)) None) (Some x) e) [
      | inl p ↦ subst (TakesBare (c ∷ t)) (some_is (Boolean false, drop 1 t) x p.1)
          (record { text = 63 ∷ 48 ∷ []; parts = ap (λ (b : ℕ). b ∷ t) k ∙ ap (λ (r : List ℕ). 63 ∷ r) (begun 48 t p.0); is = refl })
      | inr p ↦ let g = given (begins 49 t) (Some (Boolean true, drop 1 t)) x p.1 in
          subst (TakesBare (c ∷ t)) (some_is (Boolean true, drop 1 t) x g.1)
          (record { text = 63 ∷ 49 ∷ []; parts = ap (λ (b : ℕ). b ∷ t) k ∙ ap (λ (r : List ℕ). 63 ∷ r) (begun 49 t g.0); is = refl })
    ]

token_takes : (c : ℕ) (t : List ℕ) (x : Bare × List ℕ) → bare_rest c t ≡ Some x → TakesBare (c ∷ t) x
token_takes c t x e =
    elim (chosen (is_token_start c) (Some (Token (front is_token_byte (c ∷ t)), behind is_token_byte (c ∷ t))) (number_at (c ∷ t)) (Some x) e) [
      | inl p ↦
          let b : is_token_byte c ≡ true = token_start_is c p.0 in
          let one : 1 + prefix_len is_token_byte t ≡ suc (prefix_len is_token_byte t) = omega arith in
          let at : front is_token_byte (c ∷ t) ≡ c ∷ front is_token_byte t = rw (b, one) refl in
          subst (TakesBare (c ∷ t)) (some_is (Token (front is_token_byte (c ∷ t)), behind is_token_byte (c ∷ t)) x p.1) (record {
            text = front is_token_byte (c ∷ t);
            parts = parts is_token_byte (c ∷ t);
            is = (ap is_token at ∙ rw (p.0, front_all is_token_byte t) refl, refl);
          })
      | inr p ↦ number_takes (c ∷ t) x p.1
    ]

date_takes : (c : ℕ) (t : List ℕ) (x : Bare × List ℕ) → (c == 64) ≡ true → date_at t ≡ Some x → TakesBare (c ∷ t) x
unfolding date_at
date_takes c t x q e =
    let k : c ≡ 64 = grind (arith, nat_tests) in
    let read = bind_some (number_at t) (λ y. as_date y.0 >>= λ date. Some (date, y.1)) x e in
    by k read.0.0 read.0.1 (number_takes t read.0 read.1) read.2
  where
    by : c ≡ 64 → (v : Bare) (rest : List ℕ) → TakesBare t (v, rest) → (as_date v >>= λ date. Some (date, rest)) ≡ Some x → TakesBare (c ∷ t) x
    by k (Integer n) rest taken e = subst (TakesBare (c ∷ t)) (some_is (Date n, rest) x e) (record {
      text = 64 ∷ taken.text;
      parts = ap (λ (d : ℕ). d ∷ t) k ∙ ap (λ (r : List ℕ). 64 ∷ r) taken.parts;
      is = record { seconds = taken.text; is = refl; integer = taken.is };
    })
    by k (Decimal n) rest taken e = absurd cc
    by k (Str s) rest taken e = absurd cc
    by k (Token s) rest taken e = absurd cc
    by k (Binary b) rest taken e = absurd cc
    by k (Boolean b) rest taken e = absurd cc
    by k (Date n) rest taken e = absurd cc
    by k (Display s) rest taken e = absurd cc

shown_takes : (c : ℕ) (t : List ℕ) (x : Bare × List ℕ) → (c == 37) ≡ true → display_at t ≡ Some x → TakesBare (c ∷ t) x
unfolding display_at
shown_takes c t x q e =
    let k : c ≡ 37 = grind (arith, nat_tests) in
    let opened = given (begins 34 t) (display_rest (drop 1 t)) x e in
    let inside : List ℕ = drop 1 t in
    let text = front is_not_quote inside in
    let left = behind is_not_quote inside in
    let closed = given (begins 34 left) (option_map (λ s. (Display s, drop 1 left)) (display_text text)) x opened.1 in
    let m = mapped (λ (s : List ℕ). (Display s, drop 1 left)) (display_text text) x closed.1 in
    let d = display_takes text m.0 m.1 in
    subst (TakesBare (c ∷ t)) m.2 (record {
      text = 37 ∷ 34 ∷ text ++ 34 ∷ [];
      parts = ap (λ (b : ℕ). b ∷ t) k
          ∙ ap (λ (r : List ℕ). 37 ∷ r)
          (begun 34 t opened.0 ∙ ap (λ (r : List ℕ). 34 ∷ r)
          (parts is_not_quote inside ∙ ap (λ (r : List ℕ). text ++ r) (begun 34 left closed.0) ∙ sym (append_assoc text (34 ∷ []) (drop 1 left))));
      is = record { utf8 = d.0; body = text; shown = d.1; is = refl };
    })

pub bare_takes : (t : List ℕ) (x : Bare × List ℕ) → IsBytes t → bare_at t ≡ Some x → TakesBare t x
unfolding bare_at
bare_takes [] x fits e = absurd cc
bare_takes (c ∷ t) x fits e =
    elim (chosen (c == 34) (option_map (λ y. (Str y.0, y.1)) (string_rest false t))
    (cond (c == 58) (binary_rest t) (cond (c == 63) (boolean_rest t) (added_rest c t))) (Some x) e) [
      | inl p ↦ quoted_takes c t x p.0 p.1
      | inr p ↦ elim (chosen (c == 58) (binary_rest t) (cond (c == 63) (boolean_rest t) (added_rest c t)) (Some x) p.1) [
        | inl q ↦ binary_takes c t x (λ i. fits (suc i)) q.0 q.1
        | inr q ↦ elim (chosen (c == 63) (boolean_rest t) (added_rest c t) (Some x) q.1) [
          | inl r ↦ boolean_takes c t x r.0 r.1
          | inr r ↦ elim (chosen (c == 64) (date_at t) (cond (c == 37) (display_at t) (bare_rest c t)) (Some x) r.1) [
            | inl s ↦ date_takes c t x s.0 s.1
            | inr s ↦ elim (chosen (c == 37) (display_at t) (bare_rest c t) (Some x) s.1) [
              | inl u ↦ shown_takes c t x u.0 u.1
              | inr u ↦ token_takes c t x u.1
            ]
          ]
        ]
      ]
    ]

-- ---- what is written is read

-- a digit or a minus begins no other bare item
dispatch : (c : ℕ) (t : List ℕ) → (is_digit c || (c == 45)) ≡ true → bare_at (c ∷ t) ≡ number_at (c ∷ t)
unfolding bare_at
dispatch c t h =
    let a : (c == 34) ≡ false = grind (arith, nat_tests, h) in
    let b : (c == 58) ≡ false = grind (arith, nat_tests, h) in
    let d : (c == 63) ≡ false = grind (arith, nat_tests, h) in
    let date : (c == 64) ≡ false = grind (arith, nat_tests, h) in
    let display : (c == 37) ≡ false = grind (arith, nat_tests, h) in
    let e : is_token_start c ≡ false = grind (arith, nat_tests, h) in
    rw (a, b, d, date, display, e) refl

digit_or : (c : ℕ) → is_digit c ≡ true → (is_digit c || (c == 45)) ≡ true
digit_or c h = rw h refl

number_first : (negative : Bool) (digits tail : List ℕ) → 1 ≤ length digits → list_all is_digit digits ≡ true
    → bare_at (sign negative ++ (digits ++ tail)) ≡ number_at (sign negative ++ (digits ++ tail))
number_first true digits tail len all = dispatch 45 (digits ++ tail) refl
number_first false digits tail len all =
    let d = first_digit digits len all in
    subst (λ (ds : List ℕ). bare_at (ds ++ tail) ≡ number_at (ds ++ tail)) (sym d.2) (dispatch d.0 (d.1 ++ tail) (digit_or d.0 d.3))

integer_text : (text : List ℕ) (n : ℤ) (rest : List ℕ) → IsInteger text n → ends rest ≡ true → bare_at (text ++ rest) ≡ Some (Integer n, rest)
integer_text text n rest i e =
    let regrouped : text ++ rest ≡ sign i.negative ++ (i.digits ++ rest) = ap (λ (t : List ℕ). t ++ rest) i.is ∙ append_assoc (sign i.negative) i.digits rest in
    ap bare_at regrouped ∙ number_first i.negative i.digits rest i.fits.least_len i.fits.all ∙ ap number_at (sym regrouped) ∙ integer_again text n rest i e

decimal_text : (text : List ℕ) (n : ℤ) (rest : List ℕ) → IsDecimal text n → ends rest ≡ true → bare_at (text ++ rest) ≡ Some (Decimal n, rest)
decimal_text text n rest d e =
    let tail : List ℕ = 46 ∷ (d.part ++ rest) in
    let regrouped : text ++ rest ≡ sign d.negative ++ (d.whole ++ tail) = ap (λ (t : List ℕ). t ++ rest) d.is
    ∙ append_assoc (sign d.negative ++ d.whole) (46 ∷ d.part) rest ∙ append_assoc (sign d.negative) d.whole tail in
    ap bare_at regrouped ∙ number_first d.negative d.whole tail d.whole_fits.least_len d.whole_fits.all ∙ ap number_at (sym regrouped)
    ∙ decimal_text_again text n rest d e

string_text : (text s rest : List ℕ) → IsString text s → bare_at (text ++ rest) ≡ Some (Str s, rest)
unfolding bare_at
string_text text s rest i =
    let regrouped : text ++ rest ≡ 34 ∷ (flat_map in_string s ++ 34 ∷ rest) = ap (λ (t : List ℕ). t ++ rest) i.is
    ∙ ap (λ (t : List ℕ). 34 ∷ t) (append_assoc (flat_map in_string s) (34 ∷ []) rest) in
    ap bare_at regrouped ∙ ap (option_map (λ y. (Str y.0, y.1))) (string_again s rest i.all)

token_chosen : (c : ℕ) (t : List ℕ) → is_token_start c ≡ true → bare_at (c ∷ t) ≡ Some (Token (front is_token_byte (c ∷ t)), behind is_token_byte (c ∷ t))
unfolding bare_at
token_chosen c t start =
    let quote : (c == 34) ≡ false = grind (arith, nat_tests) in
    let colon : (c == 58) ≡ false = grind (arith, nat_tests) in
    let question : (c == 63) ≡ false = grind (arith, nat_tests) in
    let at_sign : (c == 64) ≡ false = grind (arith, nat_tests) in
    let percent_sign : (c == 37) ≡ false = grind (arith, nat_tests) in
    ap (λ (k : Bool). cond k (option_map (λ y. (Str y.0, y.1)) (string_rest false t))
    (cond (c == 58) (binary_rest t) (cond (c == 63) (boolean_rest t) (added_rest c t)))) quote
    ∙ ap (λ (k : Bool). cond k (binary_rest t) (cond (c == 63) (boolean_rest t) (added_rest c t))) colon
    ∙ ap (λ (k : Bool). cond k (boolean_rest t) (added_rest c t)) question
    ∙ ap (λ (k : Bool). cond k (date_at t) (cond (c == 37) (display_at t) (bare_rest c t))) at_sign
    ∙ ap (λ (k : Bool). cond k (display_at t) (bare_rest c t)) percent_sign
    ∙ ap (λ (k : Bool). cond k (Some (Token (front is_token_byte (c ∷ t)), behind is_token_byte (c ∷ t))) (number_at (c ∷ t))) start

token_text : (s rest : List ℕ) → is_token s ≡ true → ends rest ≡ true → bare_at (s ++ rest) ≡ Some (Token s, rest)
unfolding bare_at
token_text [] rest token e = absurd cc
token_text (c ∷ s) rest token e =
    let b = and_parts (is_token_start c) (list_all is_token_byte s) token in
    let all : list_all is_token_byte (c ∷ s) ≡ true = rw (token_start_is c b.0, b.1) refl in
    let at = front_again is_token_byte (c ∷ s) rest all e in
    let left = behind_again is_token_byte (c ∷ s) rest all e in
    token_chosen c (s ++ rest) b.0 ∙ (λ i. Some (Token (at i), left i))

encoded_again : (padded : Bool) (b : List ℕ) → IsBytes b → decoded (encode_of (cond padded standard standard_no_pad) b) ≡ Some b
encoded_again true b h = padded_again b h
encoded_again false b h = bare_again b h

binary_text : (text b rest : List ℕ) → IsBinary text b → bare_at (text ++ rest) ≡ Some (Binary b, rest)
unfolding bare_at binary_rest
binary_text text b rest i =
    let s : List ℕ = encode_of (cond i.padded standard standard_no_pad) b in
    let regrouped : text ++ rest ≡ 58 ∷ (s ++ (58 ∷ rest)) = ap (λ (t : List ℕ). t ++ rest) i.is
    ∙ ap (λ (t : List ℕ). 58 ∷ t) (append_assoc s (58 ∷ []) rest) in
    let at : front is_not_colon (s ++ (58 ∷ rest)) ≡ s = front_again is_not_colon s (58 ∷ rest) (no_colon i.padded b) refl in
    let left : behind is_not_colon (s ++ (58 ∷ rest)) ≡ 58 ∷ rest = behind_again is_not_colon s (58 ∷ rest) (no_colon i.padded b) refl in
    ap bare_at regrouped ∙ rw (left, at, encoded_again i.padded b i.bytes) refl

boolean_text_again : (b : Bool) (rest : List ℕ) → bare_at (boolean_text b ++ rest) ≡ Some (Boolean b, rest)
unfolding bare_at boolean_rest
boolean_text_again true rest = refl
boolean_text_again false rest = refl

date_text : (text : List ℕ) (n : ℤ) (rest : List ℕ) → IsDate text n → ends rest ≡ true → bare_at (text ++ rest) ≡ Some (Date n, rest)
unfolding bare_at date_at
date_text text n rest i e =
    ap (λ (t : List ℕ). bare_at (t ++ rest)) i.is
    ∙ ap (λ (o : Option (Bare × List ℕ)). o >>= λ x. as_date x.0 >>= λ date. Some (date, x.1)) (integer_again i.seconds n rest i.integer e)

display_text_again : (text s rest : List ℕ) → IsDisplay text s → bare_at (text ++ rest) ≡ Some (Display s, rest)
unfolding bare_at display_at
display_text_again text s rest i =
    let regrouped : text ++ rest ≡ 37 ∷ 34 ∷ (i.body ++ (34 ∷ rest)) = ap (λ (t : List ℕ). t ++ rest) i.is
    ∙ ap (λ (t : List ℕ). 37 ∷ 34 ∷ t) (append_assoc i.body (34 ∷ []) rest) in
    let none = display_no_quote s i.body i.utf8 i.shown in
    let at : front is_not_quote (i.body ++ (34 ∷ rest)) ≡ i.body = front_again is_not_quote i.body (34 ∷ rest) none refl in
    let left : behind is_not_quote (i.body ++ (34 ∷ rest)) ≡ 34 ∷ rest = behind_again is_not_quote i.body (34 ∷ rest) none refl in
    ap bare_at regrouped ∙ rw (left, at, display_again s i.body i.utf8 i.shown) refl

pub bare_text_again : (text : List ℕ) (v : Bare) (rest : List ℕ) → IsBare text v → ends rest ≡ true → bare_at (text ++ rest) ≡ Some (v, rest)
bare_text_again text (Integer n) rest is e = integer_text text n rest is e
bare_text_again text (Decimal n) rest is e = decimal_text text n rest is e
bare_text_again text (Str s) rest is e = string_text text s rest is
bare_text_again text (Token s) rest is e = ap (λ (t : List ℕ). bare_at (t ++ rest)) is.1 ∙ token_text s rest is.0 e
bare_text_again text (Binary b) rest is e = binary_text text b rest is
bare_text_again text (Boolean b) rest is e = ap (λ (t : List ℕ). bare_at (t ++ rest)) is ∙ boolean_text_again b rest
bare_text_again text (Date n) rest is e = date_text text n rest is e
bare_text_again text (Display s) rest is e = display_text_again text s rest is
