-- What a Content-Digest field says of a body: that it fits, or the first of the faults.
use Rattle.std.specs.Prelude.{◌≡◌, ◌≢◌, ℕ, true, false, if◌then◌else◌, ◌⊎◌, List, [], ◌∷◌, ◌++◌, Option, Some, None, Result, Ok, Err, IfSome}
use Rattle.std.specs.Option.{option_map_or}
use Rattle.std.specs.Str.{bytes_eq}
use Rattle.std.specs.List.{AllByRecursion}
use Rattle.structured_fields.specs.declared.item.Member.{Member}
use Rattle.structured_fields.specs.Grammar.{IsDictionaryText}
use Rattle.structured_fields.specs.Reading.{◌>>=◌, or_some, dictionary_of}
use Rattle.content_digest.specs.declared.fault.DigestFault.{DigestFault}
use Rattle.content_digest.specs.declared.fault.DigestFault.TheVariants.{NotAField, NoKnown, Differs, OutOfMemory}
use Rattle.content_digest.specs.Digest.{digest_by, sequence_of, are_sequences, has_known}

-- ---- in words

-- an entry under a known name is the digest of the body
abbrev pub IsRight : List ℕ → List ℕ × Member → Type 0
IsRight body e = IfSome (digest_by e.0 body) (λ wanted. sequence_of e.1 ≡ Some wanted)

-- every known member is the digest of the body, and one at least is there
pub record Fits (field body : List ℕ) : Type 0 where
  pub dictionary : List (List ℕ × Member)
  pub is : IsDictionaryText field dictionary
  pub all : AllByRecursion (IsRight body) dictionary
  pub some : has_known dictionary ≡ true

-- no dictionary, or a known member that is no byte sequence
pub record HasNoSequence (field : List ℕ) : Type 0 where
  pub dictionary : List (List ℕ × Member)
  pub is : IsDictionaryText field dictionary
  pub not_all : are_sequences dictionary ≡ false

abbrev pub IsNoField : List ℕ → Type 0
IsNoField field = ((d : List (List ℕ × Member)) → IsDictionaryText field d → ⊥) ⊎ HasNoSequence field

-- a dictionary without a known member
pub record HasNoKnown (field : List ℕ) : Type 0 where
  pub dictionary : List (List ℕ × Member)
  pub is : IsDictionaryText field dictionary
  pub none : has_known dictionary ≡ false

-- a dictionary whose known members are byte sequences. The first of them that isn't the digest stands behind others that are.
pub record HasOther (field body wanted found : List ℕ) : Type 0 where
  pub dictionary : List (List ℕ × Member)
  pub is : IsDictionaryText field dictionary
  pub all : are_sequences dictionary ≡ true
  pub before : List (List ℕ × Member)
  pub name : List ℕ
  pub member : Member
  pub after : List (List ℕ × Member)
  pub split : dictionary ≡ before ++ (name, member) ∷ after
  pub right : AllByRecursion (IsRight body) before
  pub wants : digest_by name body ≡ Some wanted
  pub finds : sequence_of member ≡ Some found
  pub differ : wanted ≢ found

-- what an answer says of the field and the body
abbrev pub Says : List ℕ → List ℕ → Result (Unit {0}) DigestFault → Type 0
Says field body (Ok u) = Fits field body
Says field body (Err NotAField) = IsNoField field
Says field body (Err NoKnown) = HasNoKnown field
Says field body (Err (Differs wanted found)) = HasOther field body wanted found
Says field body (Err OutOfMemory) = ⊥

-- ---- as a function

-- the digest that is wanted and the bytes that are found, where they are others
abbrev pub other_than : List ℕ → Option (List ℕ) → Option (List ℕ × List ℕ)
other_than wanted sequence = sequence >>= λ found. if bytes_eq wanted found then None else Some (wanted, found)

-- the same of an entry and a body
abbrev pub difference : List ℕ → List ℕ × Member → Option (List ℕ × List ℕ)
difference body e = digest_by e.0 body >>= λ wanted. other_than wanted (sequence_of e.1)

abbrev pub first_difference : List ℕ → List (List ℕ × Member) → Option (List ℕ × List ℕ)
first_difference body [] = None
first_difference body (e ∷ es) = or_some (difference body e) (first_difference body es)

abbrev pub answer_to : Option (List ℕ × List ℕ) → Result (Unit {0}) DigestFault
answer_to None = Ok tt
answer_to (Some p) = Err (Differs p.0 p.1)

-- both names are looked at before any digest is
unfoldable pub judged : List ℕ → List (List ℕ × Member) → Result (Unit {0}) DigestFault
judged body d =
    if are_sequences d then (if has_known d then answer_to (first_difference body d) else Err NoKnown)
    else Err NotAField

unfoldable pub checked : List ℕ → List ℕ → Result (Unit {0}) DigestFault
checked field body = option_map_or (judged body) (dictionary_of field) (Err NotAField)

-- what a function answered is what is read, unless memory ran out
abbrev pub Gives : Result (Unit {0}) DigestFault → Result (Unit {0}) DigestFault → Type 0
Gives (Ok u) read = read ≡ Ok tt
Gives (Err NotAField) read = read ≡ Err NotAField
Gives (Err NoKnown) read = read ≡ Err NoKnown
Gives (Err (Differs wanted found)) read = read ≡ Err (Differs wanted found)
Gives (Err OutOfMemory) read = Unit {0}

-- ---- both are one

-- whatever an answer says that is so, is what is answered, unless memory ran out
abbrev pub AnswersWhatIsSo : List ℕ → List ℕ → Result (Unit {0}) DigestFault → Type 0
AnswersWhatIsSo field body result = (answer : Result (Unit {0}) DigestFault) → Says field body answer → Gives result answer
