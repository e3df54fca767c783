-- Words that aren't as many as a command takes, and words that are.
use Rattle.std.proofs.Common.{◌≡◌, ℕ, List, [], ◌∷◌, length, Bool, true, false, Option, Some, None, Result, Ok, Err, ◌∙◌, ◌⊎◌, inl, inr, refl, ap, sym, subst}
use Rattle.std.specs.Prelude.{◌==◌, codes, option_map, option_and_then, option_to_list, slice_get, if◌then◌else◌}
use Rattle.std.specs.Str.{bytes_eq}
use Rattle.command_words.specs.Positionals.{exactly}
use Rattle.command_words.specs.declared.command.Command.{Command}
use Rattle.command_words.specs.declared.command.Command.TheVariants.{Serve}
use Rattle.command_words.specs.declared.command.Service.{Service}
use Rattle.command_words.specs.declared.command.Service.TheVariants.{Sets}
use Rattle.command_words.specs.declared.command.ServedSetup.{ServedSetup}
use Rattle.command_words.specs.declared.wrong_words.WordForm.{WordForm}
use Rattle.command_words.specs.declared.wrong_words.WordForm.TheVariants as forms
use Rattle.command_words.specs.declared.wrong_words.WrongWords.{WrongWords}
use Rattle.command_words.specs.declared.wrong_words.WrongWords.TheVariants.{NoCommand, Count, Word, OutOfMemory}
use Rattle.command_words.specs.Commands.{AreRead, AreWrong, is_of, replay_of, field_of, with_three, with_four, four_or_five, sign_words, verify_words, served_setup, sets_words, grants_service, as_words, rs_words, client_words, hash_of, load_words, counts_of, count_among, command_named}

no_replay : (words : List (List ℕ)) → exactly 1 words ≡ None → replay_of words ≡ None
no_replay [] is = refl
no_replay (a ∷ []) is = cc
no_replay (a ∷ b ∷ words) is = refl

no_field : (words : List (List ℕ)) → exactly 2 words ≡ None → field_of words ≡ None
no_field [] is = refl
no_field (a ∷ []) is = refl
no_field (a ∷ b ∷ []) is = cc
no_field (a ∷ b ∷ c ∷ words) is = refl

not_three : (f : List ℕ → List ℕ → List ℕ → Option Command) (words : List (List ℕ)) → exactly 3 words ≡ None → with_three f words ≡ None
not_three f [] is = refl
not_three f (a ∷ []) is = refl
not_three f (a ∷ b ∷ []) is = refl
not_three f (a ∷ b ∷ c ∷ []) is = cc
not_three f (a ∷ b ∷ c ∷ d ∷ words) is = refl

not_four : (f : List ℕ → List ℕ → List ℕ → List ℕ → Option Command) (words : List (List ℕ)) → exactly 4 words ≡ None → with_four f words ≡ None
not_four f [] is = refl
not_four f (a ∷ []) is = refl
not_four f (a ∷ b ∷ []) is = refl
not_four f (a ∷ b ∷ c ∷ []) is = refl
not_four f (a ∷ b ∷ c ∷ d ∷ []) is = cc
not_four f (a ∷ b ∷ c ∷ d ∷ e ∷ words) is = refl

no_hash : (words : List (List ℕ)) → exactly 5 words ≡ None → hash_of words ≡ None
no_hash [] is = refl
no_hash (a ∷ []) is = refl
no_hash (a ∷ b ∷ []) is = refl
no_hash (a ∷ b ∷ c ∷ []) is = refl
no_hash (a ∷ b ∷ c ∷ d ∷ []) is = refl
no_hash (a ∷ b ∷ c ∷ d ∷ e ∷ []) is = cc
no_hash (a ∷ b ∷ c ∷ d ∷ e ∷ f ∷ words) is = refl

-- of two equal counts either is the one
one_count : (n : ℕ) (b : Bool) → (if b then n else n) ≡ n
one_count n true = refl
one_count n false = refl

-- these words aren't as many as they have to be
abbrev IsMiscount : ℕ → ℕ → List (List ℕ) → Type 0
IsMiscount least most words = exactly (count_among least most (length words)) words ≡ None

-- the counts of a command that has some
abbrev least_in : Option (ℕ × ℕ) → ℕ
least_in None = 0
least_in (Some counts) = counts.0

abbrev most_in : Option (ℕ × ℕ) → ℕ
most_in None = 0
most_in (Some counts) = counts.1

same_counts : (n m least most : ℕ) (words : List (List ℕ)) → ◌≡◌ {A = Option (ℕ × ℕ)} (Some (n, m)) (Some (least, most))
    → IsMiscount least most words → IsMiscount n m words
same_counts n m least most words is none =
    let first : n ≡ least = ap least_in is in
    let last : m ≡ most = ap most_in is in
    subst (λ l. IsMiscount l m words) (sym first) (subst (λ k. IsMiscount least k words) (sym last) none)

at : (n least most : ℕ) (words : List (List ℕ)) → ◌≡◌ {A = Option (ℕ × ℕ)} (Some (n, n)) (Some (least, most))
    → IsMiscount least most words → exactly n words ≡ None
at n least most words is none =
    subst (λ m. exactly m words ≡ None) (one_count n (length words == n)) (same_counts n n least most words is none)

-- four words, or five
module _ (f : List ℕ → List ℕ → List ℕ → List ℕ → Option (List ℕ) → Option Command) where
  neither : (words : List (List ℕ)) → exactly (count_among 4 5 (length words)) words ≡ None → four_or_five f words ≡ None
  neither [] is = refl
  neither (a ∷ []) is = refl
  neither (a ∷ b ∷ []) is = refl
  neither (a ∷ b ∷ c ∷ []) is = refl
  neither (a ∷ b ∷ c ∷ d ∷ []) is = cc
  neither (a ∷ b ∷ c ∷ d ∷ e ∷ []) is = cc
  neither (a ∷ b ∷ c ∷ d ∷ e ∷ g ∷ words) is = refl

  either_miscount : (least most : ℕ) (words : List (List ℕ)) → ◌≡◌ {A = Option (ℕ × ℕ)} (Some (4, 5)) (Some (least, most))
      → IsMiscount least most words → four_or_five f words ≡ None
  either_miscount least most words is none = neither words (same_counts 4 5 least most words is none)

  -- what they are read as
  pub of_four_or_five : (result : Result Command WrongWords) (words : List (List ℕ)) (a b c d : List ℕ) (last : Option (List ℕ))
      → words ≡ a ∷ b ∷ c ∷ d ∷ option_to_list last → AreRead result (a ∷ b ∷ c ∷ d ∷ option_to_list last) (f a b c d last)
      → AreRead result words (four_or_five f words)
  of_four_or_five result words a b c d None is read = subst (λ ws. AreRead result ws (four_or_five f ws)) (sym is) read
  of_four_or_five result words a b c d (Some e) is read = subst (λ ws. AreRead result ws (four_or_five f ws)) (sym is) read

-- the last of five isn't of its form
pub fifth_wrong : (form : WordForm) (a b c d : List ℕ) (last : Option (List ℕ)) → option_map (is_of form) last ≡ Some false
    → option_map (is_of form) (slice_get (a ∷ b ∷ c ∷ d ∷ option_to_list last) 4) ≡ Some false
fifth_wrong form a b c d None is = is
fifth_wrong form a b c d (Some e) is = is

-- words that are wrong for a reading are wrong for what is made of it
pub still_wrong : {A B : Type 0} (make : Option A → Option B) → make None ≡ None → (fault : WrongWords) (words : List (List ℕ)) (reading : Option A)
    → AreWrong fault words reading → AreWrong fault words (make reading)
still_wrong make none OutOfMemory words reading wrong = tt
still_wrong make none NoCommand words reading wrong = ap make wrong ∙ none
still_wrong make none Count words reading wrong = ap make wrong ∙ none
still_wrong make none (Word place form) words reading wrong = (ap make wrong.0 ∙ none, wrong.1)

-- four words of which the resource sets are served
module _ (words : List (List ℕ)) (a b c d : List ℕ) (are : words ≡ a ∷ b ∷ c ∷ d ∷ []) where
  pub sets_wrong : (fault : WrongWords) → AreWrong fault (a ∷ b ∷ c ∷ d ∷ []) (served_setup a b c d) → AreWrong fault words (with_four sets_words words)
  sets_wrong fault wrong = subst (λ ws. AreWrong fault ws (with_four sets_words ws)) (sym are)
      (still_wrong (option_map (Serve Sets)) refl fault (a ∷ b ∷ c ∷ d ∷ []) (served_setup a b c d) wrong)

  pub sets_right : (served : ServedSetup) → served_setup a b c d ≡ Some served → with_four sets_words words ≡ Some (Serve Sets served)
  sets_right served is = ap (with_four sets_words) are ∙ ap (option_map (Serve Sets)) is

-- and four or five, of which the last is a file of pairs
module _ (words : List (List ℕ)) (a b c d : List ℕ) (pairs : Option (List ℕ)) (are : words ≡ a ∷ b ∷ c ∷ d ∷ option_to_list pairs) where
  abbrev with_pairs : Option ServedSetup → Option Command
  with_pairs served = option_and_then (λ setup. option_map (λ service. Serve service setup) (grants_service pairs)) served

  as_read : (result : Result Command WrongWords) → AreRead result (a ∷ b ∷ c ∷ d ∷ option_to_list pairs) (as_words a b c d pairs)
      → AreRead result words (four_or_five as_words words)
  as_read result read = of_four_or_five as_words result words a b c d pairs are read

  pub as_wrong : (fault : WrongWords) → AreWrong fault (a ∷ b ∷ c ∷ d ∷ option_to_list pairs) (served_setup a b c d)
      → AreWrong fault words (four_or_five as_words words)
  as_wrong fault wrong = as_read (Err fault) (still_wrong with_pairs refl fault (a ∷ b ∷ c ∷ d ∷ option_to_list pairs) (served_setup a b c d) wrong)

  pub pairs_wrong : (served : ServedSetup) (fault : WrongWords) → served_setup a b c d ≡ Some served
      → (fault ≡ OutOfMemory)
      ⊎ ((fault ≡ Word 4 forms.Argument) × (grants_service pairs ≡ None) × (option_map (is_of forms.Argument) pairs ≡ Some false))
      → AreWrong fault words (four_or_five as_words words)
  pairs_wrong served fault is (inl out) = subst (λ e. AreWrong e words (four_or_five as_words words)) (sym out) tt
  pairs_wrong served fault is (inr other) =
      let none : as_words a b c d pairs ≡ None = ap with_pairs is ∙ ap (option_map (λ service. Serve service served)) other.1 in
      subst (λ e. AreWrong e words (four_or_five as_words words)) (sym other.0)
      (as_read (Err (Word 4 forms.Argument)) (none, fifth_wrong forms.Argument a b c d pairs other.2))

  pub as_right : (served : ServedSetup) (service : Service) → served_setup a b c d ≡ Some served → grants_service pairs ≡ Some service
      → four_or_five as_words words ≡ Some (Serve service served)
  as_right served service is serves =
      let right : as_words a b c d pairs ≡ Some (Serve service served) = ap with_pairs is ∙ ap (option_map (λ s. Serve s served)) serves in
      as_read (Ok (Serve service served)) right

-- how many words there have to be, and what they are read as, by whether the name is each of those
abbrev number_by : (a b c d e f g h i j : Bool) → Option (ℕ × ℕ)
number_by a b c d e f g h i j =
    if a then Some (1, 1) else if b then Some (2, 2) else if c then Some (4, 5) else if d then Some (3, 3) else if e then Some (4, 5)
    else if f then Some (4, 4) else if g then Some (4, 5) else if h then Some (3, 3) else if i then Some (5, 5) else if j then Some (3, 3) else None

abbrev reading_by : (a b c d e f g h i j : Bool) → List (List ℕ) → Option Command
reading_by a b c d e f g h i j words =
    if a then replay_of words else if b then field_of words else if c then four_or_five sign_words words else if d then with_three verify_words words
    else if e then four_or_five as_words words else if f then with_four sets_words words else if g then four_or_five rs_words words
    else if h then with_three client_words words else if i then hash_of words else if j then with_three load_words words else None

counted : (a b c d e f g h i j : Bool) (least most : ℕ) (words : List (List ℕ))
    → number_by a b c d e f g h i j ≡ Some (least, most)
    → IsMiscount least most words
    → reading_by a b c d e f g h i j words ≡ None
counted true b c d e f g h i j least most words is none = no_replay words (at 1 least most words is none)
counted false true c d e f g h i j least most words is none = no_field words (at 2 least most words is none)
counted false false true d e f g h i j least most words is none = either_miscount sign_words least most words is none
counted false false false true e f g h i j least most words is none = not_three verify_words words (at 3 least most words is none)
counted false false false false true f g h i j least most words is none = either_miscount as_words least most words is none
counted false false false false false true g h i j least most words is none = not_four sets_words words (at 4 least most words is none)
counted false false false false false false true h i j least most words is none = either_miscount rs_words least most words is none
counted false false false false false false false true i j least most words is none = not_three client_words words (at 3 least most words is none)
counted false false false false false false false false true j least most words is none = no_hash words (at 5 least most words is none)
counted false false false false false false false false false true least most words is none = not_three load_words words (at 3 least most words is none)
counted false false false false false false false false false false least most words is none = refl

-- words that aren't as many as the command of a name takes are no command
pub miscounted : (name : List ℕ) (least most : ℕ) (words : List (List ℕ)) → counts_of name ≡ Some (least, most)
    → exactly (count_among least most (length words)) words ≡ None → command_named name words ≡ None
miscounted name least most words is none =
    counted (bytes_eq name (codes "replay")) (bytes_eq name (codes "field")) (bytes_eq name (codes "sign")) (bytes_eq name (codes "verify"))
    (bytes_eq name (codes "as")) (bytes_eq name (codes "sets")) (bytes_eq name (codes "rs")) (bytes_eq name (codes "client")) (bytes_eq name (codes "hash"))
    (bytes_eq name (codes "load")) least most words is none

unnamed_by : (a b c d e f g h i j : Bool) (words : List (List ℕ))
    → number_by a b c d e f g h i j ≡ None
    → reading_by a b c d e f g h i j words ≡ None
unnamed_by true b c d e f g h i j words is = cc
unnamed_by false true c d e f g h i j words is = cc
unnamed_by false false true d e f g h i j words is = cc
unnamed_by false false false true e f g h i j words is = cc
unnamed_by false false false false true f g h i j words is = cc
unnamed_by false false false false false true g h i j words is = cc
unnamed_by false false false false false false true h i j words is = cc
unnamed_by false false false false false false false true i j words is = cc
unnamed_by false false false false false false false false true j words is = cc
unnamed_by false false false false false false false false false true words is = cc
unnamed_by false false false false false false false false false false words is = refl

-- without a command of the name there is none with it
pub unnamed : (name : List ℕ) (words : List (List ℕ)) → counts_of name ≡ None → command_named name words ≡ None
unnamed name words is =
    unnamed_by (bytes_eq name (codes "replay")) (bytes_eq name (codes "field")) (bytes_eq name (codes "sign")) (bytes_eq name (codes "verify"))
    (bytes_eq name (codes "as")) (bytes_eq name (codes "sets")) (bytes_eq name (codes "rs")) (bytes_eq name (codes "client")) (bytes_eq name (codes "hash"))
    (bytes_eq name (codes "load")) words is

-- where so many words are read, they are the words
pub same_words : (count : ℕ) (words taken : List (List ℕ)) → Some taken ≡ exactly count words → taken ≡ words
same_words count words taken is = by (length words == count) is
  where
    by : (b : Bool) → Some taken ≡ (if b then Some words else None) → taken ≡ words
    by true is = cc
    by false is = cc

-- what was read of them is what is read of the words
pub read_again : (result : Result Command WrongWords) (name : List ℕ) (count : ℕ) (words taken : List (List ℕ)) → Some taken ≡ exactly count words
    → AreRead result taken (command_named name taken) → AreRead result words (command_named name words)
read_again result name count words taken is read = subst (λ ws. AreRead result ws (command_named name ws)) (same_words count words taken is) read
