-- What the tests of a signature say.
use Rattle.std.proofs.Common.{◌≡◌, ℕ, ◌+◌, Bool, true, List, Option, Some, None, refl, ap, arith}
use Rattle.std.specs.Prelude.{ℤ, pos, negsuc, nat_le, IfSome}
use Rattle.std.specs.Bool.{Decides}
use Rattle.std.proofs.lemmas.Slice.Eq.{bytes_eq-Decides}
use Rattle.std.proofs.lemmas.Bool.{leb-true, and_parts}
use Rattle.std.proofs.lemmas.Bool.Decides.{nat_tests}
use Rattle.structured_fields.specs.declared.bare.Bare.{Bare}
use Rattle.structured_fields.specs.declared.bare.Bare.TheVariants.{Integer, Decimal, Str, Token, Binary, Boolean, Date, Display}
use Rattle.structured_fields.specs.Named.{value_at}
use Rattle.structured_fields.specs.Strings.{holds_string, is_any_string, is_string}
use Rattle.message_signature.specs.Verified.{is_integer, absent_or, is_in_window, is_not_expired, key_in}
use Rattle.signature_laws.specs.Accepted.{IsNear, IsUpTo}

-- ---- Strings

pub string_decides : (s : List ℕ) (b : Bare) → Decides (is_string s b) (b ≡ Str s)
string_decides s (Str t) = (λ h. ap (λ (u : List ℕ). Str u) ((bytes_eq-Decides t s).0 h), λ e. let same : t ≡ s = cc in (bytes_eq-Decides t s).1 same)
string_decides s (Integer n) = (λ h. absurd cc, λ e. absurd cc)
string_decides s (Decimal n) = (λ h. absurd cc, λ e. absurd cc)
string_decides s (Token t) = (λ h. absurd cc, λ e. absurd cc)
string_decides s (Binary b) = (λ h. absurd cc, λ e. absurd cc)
string_decides s (Boolean b) = (λ h. absurd cc, λ e. absurd cc)
string_decides s (Date n) = (λ h. absurd cc, λ e. absurd cc)
string_decides s (Display t) = (λ h. absurd cc, λ e. absurd cc)

pub text_decides : (s : List ℕ) (o : Option Bare) → Decides (holds_string s o) (o ≡ Some (Str s))
text_decides s (Some v) = (λ h. ap (λ (w : Bare). Some w) ((string_decides s v).0 h), λ e. let same : v ≡ Str s = cc in (string_decides s v).1 same)
text_decides s None = (λ h. absurd cc, λ e. absurd cc)

-- ---- parameters

absent_decides : (test : Bare → Bool) (P : Bare → Type 0) (o : Option Bare) → ((v : Bare) → Decides (test v) (P v)) → Decides (absent_or test o) (IfSome o P)
absent_decides test P None each = (λ h. tt, λ h. refl)
absent_decides test P (Some v) each = each v

pub algorithm_decides : (s : List ℕ) (o : Option Bare) → Decides (absent_or (is_string s) o) (IfSome o (λ v. v ≡ Str s))
algorithm_decides s o = absent_decides (is_string s) (λ v. v ≡ Str s) o (string_decides s)

-- a parameter that is accepted has its type
pub algorithm_is_string : (s : List ℕ) (o : Option Bare) → IfSome o (λ v. v ≡ Str s) → absent_or is_any_string o ≡ true
algorithm_is_string s None h = refl
algorithm_is_string s (Some v) h = rw h refl

pub integer_passes : (o : Option Bare) (moment : ℤ) → o ≡ Some (Integer moment) → absent_or is_integer o ≡ true
integer_passes o moment e = rw e refl

pub string_passes : (o : Option Bare) (s : List ℕ) → o ≡ Some (Str s) → absent_or is_any_string o ≡ true
string_passes o s e = rw e refl

-- ---- the time

abbrev WasMadeNear : ℕ → Option Bare → Type 0
WasMadeNear now o = (created : ℤ) × (o ≡ Some (Integer created)) × IsNear now created

pub window_says : (now : ℕ) (o : Option Bare) → is_in_window now o ≡ true → WasMadeNear now o
window_says now (Some (Integer (pos n))) h =
    let parts = and_parts (nat_le n (now + 300)) (nat_le now (n + 300)) h in
    (pos n, refl, (leb-true n (now + 300) parts.0, leb-true now (n + 300) parts.1))
window_says now (Some (Integer (negsuc n))) h = (negsuc n, refl, grind (arith, nat_tests))
window_says now (Some (Decimal n)) h = absurd cc
window_says now (Some (Str s)) h = absurd cc
window_says now (Some (Token s)) h = absurd cc
window_says now (Some (Binary b)) h = absurd cc
window_says now (Some (Boolean b)) h = absurd cc
window_says now (Some (Date n)) h = absurd cc
window_says now (Some (Display t)) h = absurd cc
window_says now None h = absurd cc

pub window_passes : (now : ℕ) (created : ℤ) → IsNear now created → is_in_window now (Some (Integer created)) ≡ true
window_passes now (pos n) near = grind (arith, nat_tests)
window_passes now (negsuc n) near = grind (arith, nat_tests)

abbrev EndsLater : ℕ → Bare → Type 0
EndsLater now v = (moment : ℤ) × (v ≡ Integer moment) × IsUpTo now moment

pub expiry_says : (now : ℕ) (o : Option Bare) → absent_or is_integer o ≡ true → is_not_expired now o ≡ true → IfSome o (EndsLater now)
expiry_says now None kind h = tt
expiry_says now (Some (Integer (pos n))) kind h = (pos n, refl, grind (arith, nat_tests))
expiry_says now (Some (Integer (negsuc n))) kind h = absurd cc
expiry_says now (Some (Decimal n)) kind h = absurd cc
expiry_says now (Some (Str s)) kind h = absurd cc
expiry_says now (Some (Token s)) kind h = absurd cc
expiry_says now (Some (Binary b)) kind h = absurd cc
expiry_says now (Some (Boolean b)) kind h = absurd cc
expiry_says now (Some (Date n)) kind h = absurd cc
expiry_says now (Some (Display t)) kind h = absurd cc

pub expiry_passes : (now : ℕ) (o : Option Bare) → IfSome o (EndsLater now) → (absent_or is_integer o ≡ true) × (is_not_expired now o ≡ true)
expiry_passes now None later = (refl, refl)
expiry_passes now (Some v) later = rw later.1 (refl, by later.0 later.2)
  where
    by : (moment : ℤ) → IsUpTo now moment → is_not_expired now (Some (Integer moment)) ≡ true
    by (pos n) up = grind (arith, nat_tests)
    by (negsuc n) up = absurd up

-- ---- the key

pub key_found : (ring : List (List ℕ × List ℕ)) (o : Option Bare) (id secret : List ℕ) → o ≡ Some (Str id) → value_at ring id ≡ Some secret
    → key_in ring o ≡ Some (id, secret)
key_found ring o id secret e h = rw (e, h) refl
