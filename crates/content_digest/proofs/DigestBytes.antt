-- A digest is bytes.
use Rattle.std.proofs.Common.{ℕ, zero, suc, List, [], ◌∷◌, ◌++◌, arith}
use Rattle.std.specs.Int.{w32, to_be_bytes}
use Rattle.base64.specs.GeneralPurpose.{IsBytes}
use Rattle.sha2.specs.Sha256.{sha256, digest_bytes}

append_bytes : (a b : List ℕ) → IsBytes a → IsBytes b → IsBytes (a ++ b)
append_bytes [] b p q i = q i
append_bytes (c ∷ a) b p q zero = p 0
append_bytes (c ∷ a) b p q (suc i) = append_bytes a b (λ j. p (suc j)) q i

word_bytes : (n : ℕ) → IsBytes (to_be_bytes w32 n)
word_bytes n zero = omega arith
word_bytes n (suc zero) = omega arith
word_bytes n (suc (suc zero)) = omega arith
word_bytes n (suc (suc (suc zero))) = omega arith
word_bytes n (suc (suc (suc (suc i)))) = omega arith

digest_is_bytes : (h : List ℕ) (n : ℕ) → IsBytes (digest_bytes h n)
unfolding digest_bytes
digest_is_bytes h zero i = omega arith
digest_is_bytes h (suc n) i = append_bytes (digest_bytes h n) _ (digest_is_bytes h n) (word_bytes _) i

pub sha_bytes : (body : List ℕ) → IsBytes (sha256 body)
unfolding sha256
sha_bytes body = digest_is_bytes _ 8
