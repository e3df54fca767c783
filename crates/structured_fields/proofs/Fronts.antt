-- The front of a text that passes a test, and what is read behind it.
use Rattle.std.proofs.Common.{◌≡◌, ℕ, suc, ◌+◌, ◌-◌, ◌≤◌, ◌==◌, Bool, true, false, not, cond, ◌&&◌, ◌||◌, ◌⊎◌, inl, inr, List, [], ◌∷◌, ◌++◌, length, take, drop, reverse, Option, Some, None, refl, sym, ap, ◌∙◌, arith, true≢false}
use Rattle.std.specs.Prelude.{codes, nat_le}
use Rattle.std.specs.Option.{option_map}
use Rattle.std.specs.List.{prefix_len, list_all, list_any}
use Rattle.std.proofs.lemmas.List.{length-reverse, length-drop, reverse-append, reverse-reverse, take_at, drop_at, take-append-drop}
use Rattle.std.proofs.lemmas.Bool.{or_parts, not-true, not_from_false}
use Rattle.std.proofs.lemmas.Bool.Decides.{nat_tests}
use Rattle.structured_fields.specs.Letters.{is_digit, is_lower, is_letter, is_token_byte, is_key_byte}
use Rattle.structured_fields.specs.Reading.{◌>>=◌, front, behind, begins}

-- nothing that passes comes first
abbrev pub stops : (ℕ → Bool) → List ℕ → Bool
stops p [] = true
stops p (c ∷ t) = not (p c)

pub run_again : (p : ℕ → Bool) (a rest : List ℕ) → list_all p a ≡ true → stops p rest ≡ true → prefix_len p (a ++ rest) ≡ length a
run_again p [] [] all stop = refl
run_again p [] (c ∷ rest) all stop = by (p c) stop
  where
    by : (b : Bool) → not b ≡ true → cond b (1 + prefix_len p rest) 0 ≡ 0
    by true s = absurd cc
    by false s = refl
run_again p (c ∷ a) rest all stop = by (p c) (list_all p a) refl all (λ h. run_again p a rest h stop)
  where
    by : (b r : Bool) → list_all p a ≡ r → (b && r) ≡ true → (list_all p a ≡ true → prefix_len p (a ++ rest) ≡ length a)
        → cond b (1 + prefix_len p (a ++ rest)) 0 ≡ suc (length a)
    by true true e h again = rw (again e) (omega arith)
    by true false e h again = absurd cc
    by false r e h again = absurd cc

pub front_again : (p : ℕ → Bool) (a rest : List ℕ) → list_all p a ≡ true → stops p rest ≡ true → front p (a ++ rest) ≡ a
front_again p a rest all stop = take_at a rest (prefix_len p (a ++ rest)) (sym (run_again p a rest all stop))

pub behind_again : (p : ℕ → Bool) (a rest : List ℕ) → list_all p a ≡ true → stops p rest ≡ true → behind p (a ++ rest) ≡ rest
behind_again p a rest all stop = drop_at a rest (prefix_len p (a ++ rest)) (sym (run_again p a rest all stop))

pub parts : (p : ℕ → Bool) (t : List ℕ) → t ≡ front p t ++ behind p t
parts p t = sym (take-append-drop (prefix_len p t) t)

-- a choice by its test
pub chosen : {A : Type 0} (b : Bool) (x y z : A) → cond b x y ≡ z → ((b ≡ true) × (x ≡ z)) ⊎ ((b ≡ false) × (y ≡ z))
chosen true x y z e = inl (refl, e)
chosen false x y z e = inr (refl, e)

pub given : {A : Type 0} (b : Bool) (x : Option A) (z : A) → cond b x None ≡ Some z → (b ≡ true) × (x ≡ Some z)
given true x z e = (refl, e)
given false x z e = absurd cc

abbrev some : {A : Type 0} → A → Option A
some x = Some x

pub some_is : {A : Type 0} (x y : A) → some x ≡ some y → x ≡ y
some_is x y e = cc

-- the value of a step that did not fail
pub bind_some : {A B : Type 0} (r : Option A) (f : A → Option B) (y : B) → (r >>= f) ≡ Some y → (x : A) × (r ≡ Some x) × (f x ≡ Some y)
bind_some (Some x) f y e = (x, refl, e)
bind_some None f y e = absurd cc

-- a value that option_map gives
pub mapped : {A B : Type 0} (f : A → B) (o : Option A) (x : B) → option_map f o ≡ Some x → (y : A) × (o ≡ Some y) × (f y ≡ x)
mapped f None x e = absurd cc
mapped f (Some y) x e = (y, refl, some_is (f y) x e)

-- a text that begins with c
pub begun : (c : ℕ) (t : List ℕ) → begins c t ≡ true → t ≡ c ∷ drop 1 t
begun c [] e = absurd cc
begun c (b ∷ t) e = let k : b ≡ c = grind (arith, nat_tests) in ap (λ (d : ℕ). d ∷ t) k

-- what no bare item and no key goes on with
abbrev pub ends : List ℕ → Bool
ends rest = stops is_token_byte rest

-- a byte outside a class isn't one of the class
pub apart : (p : ℕ → Bool) (c k : ℕ) → p c ≡ false → p k ≡ true → (c == k) ≡ false
apart p c k out within = by (c == k) refl
  where
    by : (b : Bool) → (c == k) ≡ b → b ≡ false
    by false e = refl
    by true e = let k : c ≡ k = grind (arith, nat_tests) in absurd (true≢false (sym within ∙ sym (ap p k) ∙ out))

pub digit_is_token : (c : ℕ) → is_token_byte c ≡ false → is_digit c ≡ false
digit_is_token c h = (or_parts (is_letter c) (is_digit c) (or_parts (is_letter c || is_digit c) (list_any (λ k. c == k) (codes "!#$%&'*+-.^_`|~:/")) h).0).1

pub lower_is_token : (c : ℕ) → is_token_byte c ≡ false → is_lower c ≡ false
lower_is_token c h = (or_parts (is_lower c) (nat_le 65 c && nat_le c 90)
    (or_parts (is_letter c) (is_digit c) (or_parts (is_letter c || is_digit c) (list_any (λ k. c == k) (codes "!#$%&'*+-.^_`|~:/")) h).0).0).0

pub key_is_token : (c : ℕ) → is_token_byte c ≡ false → is_key_byte c ≡ false
key_is_token c h = rw (
  lower_is_token c h,
  digit_is_token c h,
  apart is_token_byte c 42 h refl,
  apart is_token_byte c 95 h refl,
  apart is_token_byte c 45 h
      refl,
  apart is_token_byte c 46 h refl,
) refl

pub ends_digit : (rest : List ℕ) → ends rest ≡ true → stops is_digit rest ≡ true
ends_digit [] h = refl
ends_digit (c ∷ rest) h = not_from_false (is_digit c) (digit_is_token c (not-true (is_token_byte c) h))

pub ends_key : (rest : List ℕ) → ends rest ≡ true → stops is_key_byte rest ≡ true
ends_key [] h = refl
ends_key (c ∷ rest) h = not_from_false (is_key_byte c) (key_is_token c (not-true (is_token_byte c) h))

pub ends_point : (rest : List ℕ) → ends rest ≡ true → begins 46 rest ≡ false
ends_point [] h = refl
ends_point (c ∷ rest) h = apart is_token_byte c 46 (not-true (is_token_byte c) h) refl

-- what is dropped from the end, by the list turned round and by its length
pub dropped_back : {X : Type 0} (n : ℕ) (xs : List X) → n ≤ length xs → take (length xs - n) xs ≡ reverse (drop n (reverse xs))
dropped_back n xs h =
    let parts : xs ≡ reverse (drop n (reverse xs)) ++ reverse (take n (reverse xs)) =
    sym (reverse-reverse xs) ∙ sym (ap reverse (take-append-drop n (reverse xs))) ∙ reverse-append (take n (reverse xs)) (drop n (reverse xs)) in
    let len : length (reverse (drop n (reverse xs))) ≡ length xs - n =
    length-reverse (drop n (reverse xs)) ∙ length-drop n (reverse xs) ∙ ap (λ (k : ℕ). k - n) (length-reverse xs) in
    ap (take (length xs - n)) parts ∙ take_at (reverse (drop n (reverse xs))) (reverse (take n (reverse xs))) (length xs - n) len
