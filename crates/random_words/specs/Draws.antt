-- The words of an entry, drawn from a stream of ChaCha20. What is said of a generator is its key, its stream and the place of its next word of 32 bits; `word_at` of `rand_chacha` has the
-- word at each place.
use Rattle.std.proofs.Common.{suc, zero}
use Rattle.std.specs.Prelude.{ℕ, List}
use Rattle.rand_core.specs.Steps.{u64_via_u32, first_words}
use Rattle.rand_chacha.specs.ChaCha.{ChaCha, next_word}

-- a word of 64 bits, which is the next two words of ChaCha20, the low half first; and the generator behind it
abbrev pub next_of : ChaCha → ℕ × ChaCha
next_of g = u64_via_u32 (next_word 10) g

-- the next draw: 48 words of 64 bits
abbrev pub draw_from : ChaCha → List ℕ
draw_from g = first_words next_of 48 g

-- the generator behind so many words of 64 bits
unfoldable pub after_words : ℕ → ChaCha → ChaCha
after_words zero g = g
after_words (suc n) g = after_words n (next_of g).1
