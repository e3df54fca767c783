-- Words that a command doesn't take, and the values of those that it takes.
use Rattle.std.proofs.Common.{◌≡◌, ◌∙◌, add-one, ℕ, ◌+◌, ◌<◌, ◌≤◌, List, [], ◌∷◌, ◌++◌, length, take, true, false, true≢false, Option, Some, None, MatchOption, sym, ap, subst, arith, inl, inr}
use Rattle.std.specs.Prelude.{◌==◌, if◌then◌else◌}
use Rattle.std.proofs.lemmas.Bool.{ne_eqb}
use Rattle.std.proofs.lemmas.Option.{slice_get-get_or}
use Rattle.std.proofs.Math.ListN.{get_or}
use Rattle.std.proofs.Math.Seq.{take-suc}
use Rattle.clap.specs.declared.parser.matches.Found.{Found}
use denote.Enum.Bare.{sameb}
use Rattle.clap.specs.contracts.error.kind.ErrorKind.{the_type}
use Rattle.clap.specs.declared.error.Error.{Error}
use Rattle.clap.specs.declared.error.kind.ErrorKind.{ErrorKind}
use Rattle.clap.specs.declared.error.kind.ErrorKind.TheVariants as kind
use Rattle.clap.specs.declared.parser.matches.ArgMatches.{ArgMatches}
use Rattle.clap.specs.Faults.{fault_of}
use Rattle.clap.specs.Kinds.{Kinds, IsAmong, HasKind}
use Rattle.clap.specs.Matches.{first_value, found_of}
use Rattle.clap.specs.Simple.{App, HasMatchesOf}
use Rattle.clap.specs.Values.{kind_of}
use Rattle.clap.specs.Walk.{Text, first_of}
use Rattle.clap.proofs.WalkLemmas.{first_value-rows}
use Rattle.command_words.specs.Positionals.{after_dashes, exactly, name_of, taking, HasValues}
use Rattle.command_words.proofs.AfterDashes.{Faults, faults, simple, values}

not_so_many : (count : ℕ) (words : List Text) → (length words ≡ count → ⊥) → exactly count words ≡ None
not_so_many count words other = ap (λ b. if b then Some words else None) (ne_eqb (length words) count other)

so_many : (count : ℕ) (words : List Text) → length words ≡ count → exactly count words ≡ Some words
so_many count words is = subst (λ n. exactly n words ≡ Some words) is (ap (λ b. if b then Some words else None) (same (length words)))
  where
    same : (n : ℕ) → (n == n) ≡ true
    same n = grind arith

missed : (count : ℕ) (words : List Text) (kinds : Kinds) (k : ErrorKind) → Faults count words kinds → IsAmong k kinds → exactly count words ≡ None
missed count words [] k others among = absurd among
missed count words (kind ∷ kinds) k others among = not_so_many count words others

not_memory : (e : Error) (count : ℕ) (words : List Text) (kinds : Kinds) → Faults count words kinds → HasKind kinds e
    → sameb the_type (kind_of e) kind.OutOfMemory ≡ false → exactly count words ≡ None
not_memory e count words kinds others (inl is) other = absurd (true≢false (sym (ap (λ k. sameb the_type k kind.OutOfMemory) is) ∙ other))
not_memory e count words kinds others (inr among) other = missed count words kinds _ others among

-- Words that are refused, but not for want of memory, are of another number.
pub refused : (e : Error) (count : ℕ) → 1 ≤ count → count ≤ 5 → (a : App) (given words : List Text) → a ≡ taking count → given ≡ after_dashes words
    → HasKind (fault_of a given) e → sameb the_type (kind_of e) kind.OutOfMemory ≡ false → exactly count words ≡ None
refused e count least most a given words a_is given_is kinds other =
    not_memory e count words _ (faults count least most words)
    (subst (λ x. HasKind (fault_of (taking count) x) e) given_is (subst (λ x. HasKind (fault_of x given) e) a_is kinds)) other

so_many_in : (count : ℕ) (words : List Text) (kinds : Kinds) → Faults count words kinds → kinds ≡ [] → length words ≡ count
so_many_in count words [] number none = number
so_many_in count words (kind ∷ kinds) number none = cc

-- What a command takes is as many words as it takes, and no fault comes.
pub took : (m : ArgMatches) (count : ℕ) → (a : App) (given words : List Text) → a ≡ taking count → given ≡ after_dashes words
    → HasMatchesOf a given m → fault_of a given ≡ [] → HasMatchesOf (taking count) (after_dashes words) m × (fault_of (taking count) (after_dashes words) ≡ [])
took m count a given words a_is given_is has none =
    subst (λ x. HasMatchesOf (taking count) x m × (fault_of (taking count) x ≡ [])) given_is
    (subst (λ x. HasMatchesOf x given m × (fault_of x given ≡ [])) a_is (has, none))

-- What a command of so many words took are the words.
pub taken : (o : Option ArgMatches) (m : ArgMatches) (count : ℕ) → 1 ≤ count → count ≤ 5 → (words : List Text)
    → MatchOption o (exactly count words ≡ None) (λ m. HasMatchesOf (taking count) (after_dashes words) m × (fault_of (taking count) (after_dashes words) ≡ []))
    → o ≡ Some m → (length words ≡ count) × HasValues (found_of m) words × (exactly count words ≡ Some words)
taken (Some own) m count least most words has is =
    let same : own ≡ m = cc in
    let rows = (subst (λ x. HasMatchesOf (taking count) (after_dashes words) x) same has.0 (simple count least most)).0 in
    let so = so_many_in count words _ (faults count least most words) has.1 in (
      so,
      (λ place below. first_value-rows (found_of m) (name_of place) ∙ ap (first_of (name_of place)) rows
          ∙ values count least most words so place (subst (λ n. place < n) so below)),
      so_many count words so,
    )
taken None m count least most words has is = cc

-- the values of the arguments before a place, and one more
pub one_more : (found : Found) (words : List Text) → HasValues found words → (place : ℕ) → place < length words → (value : Text)
    → Some value ≡ first_value found (name_of place)
    → take place words ++ value ∷ [] ≡ take (place + 1) words
one_more found words has place below value is =
    let here = is ∙ has place below ∙ slice_get-get_or words place [] below in
    let same : value ≡ get_or words place [] = cc in
    ap (λ x. take place words ++ x ∷ []) same ∙ sym (take-suc words place [] below) ∙ ap (λ n. take n words) (sym (add-one place))

-- no argument is without a value
pub no_gap : (found : Found) (words : List Text) → HasValues found words → (place : ℕ) → place < length words → None ≡ first_value found (name_of place) → ⊥
no_gap found words has place below is =
    let here = is ∙ has place below ∙ slice_get-get_or words place [] below in
    cc
