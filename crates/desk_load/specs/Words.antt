-- The random words of a load: those of ChaCha20 under one seed, in a stream for each worker. What is said of a generator is its key, its stream and the
-- place of its next word of 32 bits; `word_at` of `rand_chacha` has the word at each place.
use Rattle.std.proofs.Common.{suc}
use Rattle.std.specs.Prelude.{◌≡◌, ℕ, ◌*◌, ◌%◌, ◌^◌, List, [], ◌∷◌, ◌++◌, replicate}
use Rattle.std.specs.Int.{w64, to_le_bytes}
use Rattle.rand_chacha.specs.ChaCha.{ChaCha, key_of}
use Rattle.random_words.specs.Draws.{draw_from, after_words}
use Rattle.grant_machine.specs.Gnap.{GnapEntry}

-- the seed: START in 8 bytes, the low one first, and 24 zeros
abbrev pub seed_under : ℕ → List ℕ
seed_under start = to_le_bytes w64 start ++ replicate 24 0

-- The generator of a worker before its draw n, counted from 0: in the stream of the worker's number, with 96 words behind it for each draw. A stream has
-- 2 ^ 68 words.
abbrev pub generator_at : ℕ → ℕ → ℕ → ChaCha
generator_at start worker n = record { key = key_of (seed_under start); stream = worker; word_pos = 96 * n % 2 ^ 68 }

-- draw n of a worker, counted from 0
abbrev pub draw_of : ℕ → ℕ → ℕ → List ℕ
draw_of start worker n = draw_from (generator_at start worker n)

-- the entries have the draws of a worker in order, from the one with this number on
abbrev pub HaveDraws : ℕ → ℕ → ℕ → List GnapEntry → Type 0
HaveDraws start worker n [] = Unit {0}
HaveDraws start worker n (e ∷ es) = (e.draw ≡ draw_of start worker n) × HaveDraws start worker (suc n) es

-- the entries have the draws of a generator in order, which then is this one
abbrev pub Drawn : ChaCha → List GnapEntry → ChaCha → Type 0
Drawn g [] after = after ≡ g
Drawn g (e ∷ es) after = (e.draw ≡ draw_from g) × Drawn (after_words 48 g) es after
