-- What a command that takes so many words makes of words after `--`.
use Rattle.std.proofs.Common.{◌≡◌, ℕ, ◌<◌, ◌≤◌, List, [], ◌∷◌, length, zero, suc, refl, arith, true, slice_get}
use Rattle.clap.specs.Walk.{Text, first_of}
use Rattle.clap.specs.Simple.{is_simple, matches_of}
use Rattle.clap.specs.Faults.{fault_of, is_simple_and_free}
use Rattle.clap.specs.Kinds.{Kinds}
use Rattle.clap.proofs.OnLiterals.{clap_on_literals}
use Rattle.command_words.specs.Positionals.{after_dashes, name_of, taking}

-- what holds of each number of words from one to five
by_count : (P : ℕ → Type 0) → P 1 → P 2 → P 3 → P 4 → P 5 → (count : ℕ) → 1 ≤ count → count ≤ 5 → P count
by_count P one two three four five zero least most = absurd (omega (arith, least))
by_count P one two three four five (suc zero) least most = one
by_count P one two three four five (suc (suc zero)) least most = two
by_count P one two three four five (suc (suc (suc zero))) least most = three
by_count P one two three four five (suc (suc (suc (suc zero)))) least most = four
by_count P one two three four five (suc (suc (suc (suc (suc zero))))) least most = five
by_count P one two three four five (suc (suc (suc (suc (suc (suc count)))))) least most = absurd (omega (arith, most))

pub simple : (count : ℕ) → 1 ≤ count → count ≤ 5 → is_simple (taking count) ≡ true
unfolding clap_on_literals
simple = by_count (λ count. is_simple (taking count) ≡ true) refl refl refl refl refl

pub simple_and_free : (count : ℕ) → 1 ≤ count → count ≤ 5 → is_simple_and_free (taking count) ≡ true
unfolding clap_on_literals
simple_and_free = by_count (λ count. is_simple_and_free (taking count) ≡ true) refl refl refl refl refl

-- faults come just where there are not so many words
abbrev pub Faults : ℕ → List Text → Kinds → Type 0
Faults count words [] = length words ≡ count
Faults count words (kind ∷ kinds) = length words ≡ count → ⊥

faults1 : (words : List Text) → Faults 1 words (fault_of (taking 1) (after_dashes words))
unfolding clap_on_literals
faults1 [] = λ is. omega (arith, is)
faults1 (a ∷ []) = refl
faults1 (a ∷ more ∷ words) = λ is. omega (arith, is)

faults2 : (words : List Text) → Faults 2 words (fault_of (taking 2) (after_dashes words))
unfolding clap_on_literals
faults2 [] = λ is. omega (arith, is)
faults2 (a ∷ []) = λ is. omega (arith, is)
faults2 (a ∷ b ∷ []) = refl
faults2 (a ∷ b ∷ more ∷ words) = λ is. omega (arith, is)

faults3 : (words : List Text) → Faults 3 words (fault_of (taking 3) (after_dashes words))
unfolding clap_on_literals
faults3 [] = λ is. omega (arith, is)
faults3 (a ∷ []) = λ is. omega (arith, is)
faults3 (a ∷ b ∷ []) = λ is. omega (arith, is)
faults3 (a ∷ b ∷ c ∷ []) = refl
faults3 (a ∷ b ∷ c ∷ more ∷ words) = λ is. omega (arith, is)

faults4 : (words : List Text) → Faults 4 words (fault_of (taking 4) (after_dashes words))
unfolding clap_on_literals
faults4 [] = λ is. omega (arith, is)
faults4 (a ∷ []) = λ is. omega (arith, is)
faults4 (a ∷ b ∷ []) = λ is. omega (arith, is)
faults4 (a ∷ b ∷ c ∷ []) = λ is. omega (arith, is)
faults4 (a ∷ b ∷ c ∷ d ∷ []) = refl
faults4 (a ∷ b ∷ c ∷ d ∷ more ∷ words) = λ is. omega (arith, is)

faults5 : (words : List Text) → Faults 5 words (fault_of (taking 5) (after_dashes words))
unfolding clap_on_literals
faults5 [] = λ is. omega (arith, is)
faults5 (a ∷ []) = λ is. omega (arith, is)
faults5 (a ∷ b ∷ []) = λ is. omega (arith, is)
faults5 (a ∷ b ∷ c ∷ []) = λ is. omega (arith, is)
faults5 (a ∷ b ∷ c ∷ d ∷ []) = λ is. omega (arith, is)
faults5 (a ∷ b ∷ c ∷ d ∷ e ∷ []) = refl
faults5 (a ∷ b ∷ c ∷ d ∷ e ∷ more ∷ words) = λ is. omega (arith, is)

pub faults : (count : ℕ) → 1 ≤ count → count ≤ 5 → (words : List Text) → Faults count words (fault_of (taking count) (after_dashes words))
faults = by_count (λ count. (words : List Text) → Faults count words (fault_of (taking count) (after_dashes words))) faults1 faults2 faults3 faults4 faults5

-- the values of the arguments are the words, in order
abbrev pub Values : ℕ → List Text → Type 0
Values count words = length words ≡ count → (place : ℕ) → place < count
    → first_of (name_of place) (matches_of (taking count) (after_dashes words)) ≡ slice_get words place

values1 : (words : List Text) → Values 1 words
unfolding clap_on_literals
values1 [] is place below = absurd (omega (arith, is))
values1 (a ∷ []) is zero below = refl
values1 (a ∷ []) is (suc place) below = absurd (omega (arith, below))
values1 (a ∷ more ∷ words) is place below = absurd (omega (arith, is))

values2 : (words : List Text) → Values 2 words
unfolding clap_on_literals
values2 [] is place below = absurd (omega (arith, is))
values2 (a ∷ []) is place below = absurd (omega (arith, is))
values2 (a ∷ b ∷ []) is zero below = refl
values2 (a ∷ b ∷ []) is (suc zero) below = refl
values2 (a ∷ b ∷ []) is (suc (suc place)) below = absurd (omega (arith, below))
values2 (a ∷ b ∷ more ∷ words) is place below = absurd (omega (arith, is))

values3 : (words : List Text) → Values 3 words
unfolding clap_on_literals
values3 [] is place below = absurd (omega (arith, is))
values3 (a ∷ []) is place below = absurd (omega (arith, is))
values3 (a ∷ b ∷ []) is place below = absurd (omega (arith, is))
values3 (a ∷ b ∷ c ∷ []) is zero below = refl
values3 (a ∷ b ∷ c ∷ []) is (suc zero) below = refl
values3 (a ∷ b ∷ c ∷ []) is (suc (suc zero)) below = refl
values3 (a ∷ b ∷ c ∷ []) is (suc (suc (suc place))) below = absurd (omega (arith, below))
values3 (a ∷ b ∷ c ∷ more ∷ words) is place below = absurd (omega (arith, is))

values4 : (words : List Text) → Values 4 words
unfolding clap_on_literals
values4 [] is place below = absurd (omega (arith, is))
values4 (a ∷ []) is place below = absurd (omega (arith, is))
values4 (a ∷ b ∷ []) is place below = absurd (omega (arith, is))
values4 (a ∷ b ∷ c ∷ []) is place below = absurd (omega (arith, is))
values4 (a ∷ b ∷ c ∷ d ∷ []) is zero below = refl
values4 (a ∷ b ∷ c ∷ d ∷ []) is (suc zero) below = refl
values4 (a ∷ b ∷ c ∷ d ∷ []) is (suc (suc zero)) below = refl
values4 (a ∷ b ∷ c ∷ d ∷ []) is (suc (suc (suc zero))) below = refl
values4 (a ∷ b ∷ c ∷ d ∷ []) is (suc (suc (suc (suc place)))) below = absurd (omega (arith, below))
values4 (a ∷ b ∷ c ∷ d ∷ more ∷ words) is place below = absurd (omega (arith, is))

values5 : (words : List Text) → Values 5 words
unfolding clap_on_literals
values5 [] is place below = absurd (omega (arith, is))
values5 (a ∷ []) is place below = absurd (omega (arith, is))
values5 (a ∷ b ∷ []) is place below = absurd (omega (arith, is))
values5 (a ∷ b ∷ c ∷ []) is place below = absurd (omega (arith, is))
values5 (a ∷ b ∷ c ∷ d ∷ []) is place below = absurd (omega (arith, is))
values5 (a ∷ b ∷ c ∷ d ∷ e ∷ []) is zero below = refl
values5 (a ∷ b ∷ c ∷ d ∷ e ∷ []) is (suc zero) below = refl
values5 (a ∷ b ∷ c ∷ d ∷ e ∷ []) is (suc (suc zero)) below = refl
values5 (a ∷ b ∷ c ∷ d ∷ e ∷ []) is (suc (suc (suc zero))) below = refl
values5 (a ∷ b ∷ c ∷ d ∷ e ∷ []) is (suc (suc (suc (suc zero)))) below = refl
values5 (a ∷ b ∷ c ∷ d ∷ e ∷ []) is (suc (suc (suc (suc (suc place))))) below = absurd (omega (arith, below))
values5 (a ∷ b ∷ c ∷ d ∷ e ∷ more ∷ words) is place below = absurd (omega (arith, is))

pub values : (count : ℕ) → 1 ≤ count → count ≤ 5 → (words : List Text) → Values count words
values = by_count (λ count. (words : List Text) → Values count words) values1 values2 values3 values4 values5
