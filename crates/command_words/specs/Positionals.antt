-- Words by their number, and the commands of `clap` that take so many.
use Rattle.std.specs.Prelude.{◌≡◌, ◌<◌, ℕ, zero, suc, List, ◌∷◌, ◌==◌, length, codes, Option, Some, None, if◌then◌else◌, slice_get, true}
use Rattle.clap.specs.declared.parser.matches.Found.{Found}
use Rattle.clap.specs.Matches.{first_value}
use Rattle.clap.specs.Walk.{Rule, Text}
use Rattle.clap.specs.Simple.{App, new_app, new_rule, with_rule, on_top}

-- these words, where there are so many
abbrev pub exactly : ℕ → List Text → Option (List Text)
exactly count words = if length words == count then Some words else None

-- the words with `--` before them: after it no word is taken for an option
abbrev pub after_dashes : List Text → List Text
after_dashes words = codes "--" ∷ words

-- the name of the argument at a place, counted from 0
abbrev pub name_of : ℕ → Text
name_of place =
    if place == 0 then codes "1" else if place == 1 then codes "2" else if place == 2 then codes "3" else if place == 3 then codes "4" else codes "5"

-- an argument that is required
abbrev pub required : Text → Rule
required name = record (new_rule name) { required = true }

-- a command that takes no argument: without the program's name as its first word, and without `--help`
abbrev pub bare : App
bare = on_top (λ s. record s { no_binary_name = true; disable_help_flag = true }) (new_app (codes "words"))

-- a command that takes so many words
abbrev pub taking : ℕ → App
taking zero = bare
taking (suc count) = with_rule (taking count) (required (name_of count))

-- the arguments of a command have these words as their values, in order
abbrev pub HasValues : Found → List Text → Type 0
HasValues found words = (place : ℕ) → place < length words → first_value found (name_of place) ≡ slice_get words place
