use Rattle.std.proofs.Common.{◌≡◌, ℕ, List, [], ◌∷◌, length, get_or, ◌<◌, ◌≤◌, Bool, true, false, Option, Some, None, Result, Err, map, string_bytes, ◌∙◌, ◌⊎◌, inl, inr, refl, ap, sym, subst, arith}
use Rattle.std.specs.Prelude.{◌&&◌, if◌then◌else◌}
use Rattle.std.proofs.lemmas.Result.{err_from_is_err_and}
use Rattle.command_words.specs.declared.command.Command.{Command}
use Rattle.command_words.specs.declared.command.Command.TheVariants.{Hash}
use Rattle.command_words.specs.declared.wrong_words.WordForm.TheVariants as forms
use Rattle.command_words.specs.declared.wrong_words.WrongWords.{WrongWords}
use Rattle.command_words.specs.declared.wrong_words.WrongWords.TheVariants.{Word, OutOfMemory}
use Rattle.command_words.specs.Commands.{AreRead, is_argument, long_method, hash_words, hash_of}
use Rattle.command_words.proofs.command.hash_of.Goals as goal

-- the items of a list of five
five : {A : Type 0} (xs : List A) (a b c d e : A) → 5 ≤ length xs → length xs < 6
    → a ≡ get_or xs 0 a → b ≡ get_or xs 1 b → c ≡ get_or xs 2 c → d ≡ get_or xs 3 d → e ≡ get_or xs 4 e → xs ≡ a ∷ b ∷ c ∷ d ∷ e ∷ []
five [] a b c d e least most first second third fourth fifth = absurd (omega arith)
five (v ∷ []) a b c d e least most first second third fourth fifth = absurd (omega arith)
five (v ∷ w ∷ []) a b c d e least most first second third fourth fifth = absurd (omega arith)
five (v ∷ w ∷ x ∷ []) a b c d e least most first second third fourth fifth = absurd (omega arith)
five (v ∷ w ∷ x ∷ y ∷ []) a b c d e least most first second third fourth fifth = absurd (omega arith)
five (v ∷ w ∷ x ∷ y ∷ z ∷ []) a b c d e least most first second third fourth fifth = rw (first, second, third, fourth, fifth) refl
five (v ∷ w ∷ x ∷ y ∷ z ∷ u ∷ xs) a b c d e least most first second third fourth fifth = absurd (omega arith)

-- the second of two words is no argument
second_false : (a b more : Bool) (made : Option Command) → b ≡ false → (if a && (b && more) then made else None) ≡ None
second_false true b more made is = rw is refl
second_false false b more made is = refl

-- a text is this word, which is an argument
abbrev IsTaken : List ℕ → List ℕ → Type 0
IsTaken text word = (text ≡ word) × (is_argument word ≡ true)

-- the word at a place is no argument
abbrev IsWrongAt : WrongWords → ℕ → List ℕ → Type 0
IsWrongAt fault place word = (fault ≡ Word place forms.Argument) × (is_argument word ≡ false)

-- the words after the name, where they are five
module _ (words : List (List ℕ)) (method client server reference uri : List ℕ) (are : words ≡ method ∷ client ∷ server ∷ reference ∷ uri ∷ []) where
  five_read : (result : Result Command WrongWords)
      → AreRead result (method ∷ client ∷ server ∷ reference ∷ uri ∷ []) (hash_words method client server reference uri)
      → AreRead result words (hash_of words)
  five_read result read = subst (λ ws. AreRead result ws (hash_of ws)) (sym are) read

  first_pair_wrong : (fault : WrongWords) → (fault ≡ OutOfMemory) ⊎ (IsWrongAt fault 1 client ⊎ IsWrongAt fault 2 server)
      → AreRead (Err fault) words (hash_of words)
  first_pair_wrong fault (inl out) = rw out tt
  first_pair_wrong fault (inr (inl wrong)) = rw wrong.0 (five_read (Err (Word 1 forms.Argument)) (rw wrong.1 refl, ap Some wrong.1))
  first_pair_wrong fault (inr (inr wrong)) =
      rw wrong.0 (five_read (Err (Word 2 forms.Argument)) (second_false (is_argument client) (is_argument server) _ _ wrong.1, ap Some wrong.1))

  second_pair_wrong : (fault : WrongWords) → is_argument client ≡ true → is_argument server ≡ true
      → (fault ≡ OutOfMemory) ⊎ (IsWrongAt fault 3 reference ⊎ IsWrongAt fault 4 uri) → AreRead (Err fault) words (hash_of words)
  second_pair_wrong fault first second (inl out) = rw out tt
  second_pair_wrong fault first second (inr (inl wrong)) =
      rw wrong.0 (five_read (Err (Word 3 forms.Argument)) (rw (first, second, wrong.1) refl, ap Some wrong.1))
  second_pair_wrong fault first second (inr (inr wrong)) =
      rw wrong.0 (five_read (Err (Word 4 forms.Argument))
      (rw (first, second) (second_false (is_argument reference) (is_argument uri) _ _ wrong.1), ap Some wrong.1))

  all_taken : (long : Bool) (c s r u : List ℕ) → long_method method ≡ Some long
      → IsTaken c client → IsTaken s server → IsTaken r reference → IsTaken u uri
      → hash_of words ≡ Some (Hash (record { long = long; client_nonce = c; server_nonce = s; reference = r; endpoint = u }))
  all_taken long c s r u named first second third fourth =
      rw (are, first.1, second.1, third.1, fourth.1, named, first.0, second.0, third.0, fourth.0) refl

pub returns-in_err-client_nonce-clause-read : goal.returns-in_err-client_nonce-clause-read
returns-in_err-client_nonce-clause-read c =
    let are : map string_bytes c.args.words.now
    ≡ c.as_str.result.now ∷ c.as_str-2.result.now ∷ c.as_str-3.result.now ∷ string_bytes c.reference-item.result ∷ string_bytes c.endpoint-item.result ∷ []
    = rw (c.as_str.ensures.value, c.as_str-2.ensures.value, c.as_str-3.ensures.value) (ap (map string_bytes)
    (five c.args.words.now _ _ _ _ _ (omega arith) (omega arith)
    c.method-item.is c.client-item.is c.server-item.is c.reference-item.is c.endpoint-item.is)) in
    let p = err_from_is_err_and c.from_residual.result c.from_residual.ensures.1 in
    rw (p.1, p.2) (first_pair_wrong _ _ _ _ _ _ are c.in_err-client_nonce.field-0.0 c.in_err-client_nonce.ensures.wrong)

pub returns-in_err-reference-clause-read : goal.returns-in_err-reference-clause-read
returns-in_err-reference-clause-read c =
    let are : map string_bytes c.args.words.now
    ≡ c.as_str.result.now ∷ c.as_str-2.result.now ∷ c.as_str-3.result.now ∷ c.as_str-4.result.now ∷ c.as_str-5.result.now ∷ []
    = rw (c.as_str.ensures.value, c.as_str-2.ensures.value, c.as_str-3.ensures.value, c.as_str-4.ensures.value, c.as_str-5.ensures.value)
    (ap (map string_bytes)
    (five c.args.words.now _ _ _ _ _ (omega arith) (omega arith)
    c.method-item.is c.client-item.is c.server-item.is c.reference-item.is c.endpoint-item.is)) in
    let p = err_from_is_err_and c.from_residual-in_err-reference.result c.from_residual-in_err-reference.ensures.1 in
    let taken = c.in_ok-client_nonce.ensures.taken in
    rw (p.1, p.2) (second_pair_wrong _ _ _ _ _ _ are c.in_err-reference.field-0.0 taken.1 taken.3 c.in_err-reference.ensures.wrong)

pub returns-clause-read : goal.returns-clause-read
returns-clause-read c =
    let are : map string_bytes c.args.words.now
    ≡ c.as_str.result.now ∷ c.as_str-2.result.now ∷ c.as_str-3.result.now ∷ c.as_str-4.result.now ∷ c.as_str-5.result.now ∷ []
    = rw (c.as_str.ensures.value, c.as_str-2.ensures.value, c.as_str-3.ensures.value, c.as_str-4.ensures.value, c.as_str-5.ensures.value)
    (ap (map string_bytes)
    (five c.args.words.now _ _ _ _ _ (omega arith) (omega arith)
    c.method-item.is c.client-item.is c.server-item.is c.reference-item.is c.endpoint-item.is)) in
    let first = c.in_ok-client_nonce.ensures.taken in
    let second = c.in_ok-reference.ensures.taken in
    all_taken _ _ _ _ _ _ are c.in-Some.long _ _ _ _ (sym c.long_method.ensures ∙ c.in-Some.is) (first.0, first.1) (first.2, first.3) (second.0, second.1)
    (second.2, second.3)
