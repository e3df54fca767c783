-- The words of a stream by their places.
use Rattle.std.proofs.Common.{◌≡◌, ◌∙◌, ℕ, zero, suc, ◌+◌, ◌*◌, ◌%◌, ◌<◌, ◌^◌, List, [], ◌∷◌, ◌++◌, take, set, length, slice_index, refl, ap, sym, subst, arith}
use Rattle.std.proofs.lemmas.List.{take_more, take_more_set}
use Rattle.rand_core.specs.Steps.{first_words}
use Rattle.rand_chacha.specs.ChaCha.{ChaCha}
use Rattle.random_words.specs.Draws.{next_of, after_words, draw_from}

-- the generator at a place, whose number is reduced already or not
abbrev pub at_place : List ℕ → ℕ → ℕ → ChaCha
at_place key stream place = record { key = key; stream = stream; word_pos = place % 2 ^ 68 }

-- each word of 64 bits takes two places
pub after-words_at : (k : ℕ) (key : List ℕ) (stream place : ℕ) → after_words k (at_place key stream place) ≡ at_place key stream (place + 2 * k)
unfolding after_words
after-words_at zero key stream place = ap (at_place key stream) (let same : place ≡ place + 2 * 0 = omega arith in same)
after-words_at (suc k) key stream place =
    let next : ((place % 2 ^ 68 + 1) % 2 ^ 68 + 1) % 2 ^ 68 ≡ (place + 2) % 2 ^ 68 = omega arith in
    ap (λ (n : ℕ). after_words k (record { key = key; stream = stream; word_pos = n })) next
    ∙ after-words_at k key stream (place + 2)
    ∙ ap (at_place key stream) (let same : place + 2 + 2 * k ≡ place + 2 * suc k = omega arith in same)

-- at a block
pub after-words_in : (k : ℕ) (key : List ℕ) (stream block : ℕ) → block < 2 ^ 64
    → after_words k (record { key = key; stream = stream; word_pos = block * 16 }) ≡ at_place key stream (block * 16 + 2 * k)
after-words_in k key stream block within =
    ap (λ (n : ℕ). after_words k (record { key = key; stream = stream; word_pos = n })) (let same : block * 16 ≡ (block * 16) % 2 ^ 68 = omega (arith, within) in same)
    ∙ after-words_at k key stream (block * 16)

-- a word of the first ones is the next word behind those before it
pub word_there : (n i : ℕ) (g : ChaCha) → i < n → slice_index (first_words next_of n g) i ≡ (next_of (after_words i g)).0
unfolding first_words after_words
word_there zero i g within = absurd (omega (arith, within))
word_there (suc n) zero g within = refl
word_there (suc n) (suc i) g within = word_there n i (next_of g).1 (omega (arith, within))

-- the generator one word further
pub after_one_more : (i : ℕ) (g : ChaCha) → after_words (i + 1) g ≡ (next_of (after_words i g)).1
unfolding after_words
after_one_more zero g = refl
after_one_more (suc i) g =
    let more : suc i + 1 ≡ suc (i + 1) = omega arith in
    rw more (after_one_more i (next_of g).1)

-- the next draw stands six blocks further
pub next_draw : (key : List ℕ) (stream block : ℕ) → block < 2 ^ 64
    → record { key = key; stream = stream; word_pos = (block + 6) % 2 ^ 64 * 16 }
    ≡ after_words 48 (record { key = key; stream = stream; word_pos = block * 16 })
next_draw key stream block within =
    ap (λ (n : ℕ). record { key = key; stream = stream; word_pos = n })
    (let same : (block + 6) % 2 ^ 64 * 16 ≡ (block * 16 + 2 * 48) % 2 ^ 68 = omega (arith, within) in same)
    ∙ sym (after-words_in 48 key stream block within)

-- ---- making the first words

first_words-length : (n : ℕ) (g : ChaCha) → length (first_words next_of n g) ≡ n
unfolding first_words
first_words-length zero g = refl
first_words-length (suc n) g = ap suc (first_words-length n (next_of g).1)

-- a word more
pub one_made : (words : List ℕ) (i word : ℕ) (g before after : ChaCha) → i < 16 → length words ≡ 16 → before ≡ after_words i g
    → (word, after) ≡ next_of before → take i words ≡ take i (draw_from g) → take (i + 1) (set words i word) ≡ take (i + 1) (draw_from g)
one_made words i word g before after few many there next so_far =
    let here : word ≡ slice_index (draw_from g) i =
    ap (λ (p : ℕ × ChaCha). p.0) next ∙ ap (λ b. (next_of b).0) there ∙ sym (word_there 48 i g (omega (arith, few))) in
    take_more_set words i word (omega (arith, few, many))
    ∙ ap (λ l. l ++ word ∷ []) so_far
    ∙ ap (λ w. take i (draw_from g) ++ w ∷ []) here
    ∙ sym (take_more (draw_from g) i 0 (subst (λ n. i < n) (sym (first_words-length 48 g)) (omega (arith, few))))
