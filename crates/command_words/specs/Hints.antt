-- What a person is told of words that are no command.
use Rattle.std.specs.Prelude.{ℕ, ◌==◌, ◌||◌, ◌&&◌, nat_lt, List, [], ◌∷◌, ◌++◌, length, take, drop, flat_map, slice_get, Bool, false, Option, Some, None, codes, if◌then◌else◌}
use Rattle.std.specs.Fmt.{decimal}
use Rattle.std.specs.Str.{bytes_eq}
use Rattle.command_words.specs.declared.usage.TheConstants.{USAGE}
use Rattle.command_words.specs.declared.wrong_words.WordForm.{WordForm}
use Rattle.command_words.specs.declared.wrong_words.WordForm.TheVariants as forms
use Rattle.command_words.specs.Commands.{counts_of}
use Rattle.command_words.specs.Telling.{shown_text}

-- ---- the usage

abbrev pub begins_with_blank : List ℕ → Bool
begins_with_blank [] = false
begins_with_blank (byte ∷ bytes) = byte == 32

-- whether a line begins with `  gnap `, the name and a blank
abbrev pub is_usage_of : List ℕ → List ℕ → Bool
is_usage_of name line =
    bytes_eq (take 7 line) (codes "  gnap ")
    && (bytes_eq (take (length name) (drop 7 line)) name && begins_with_blank (drop (length name) (drop 7 line)))

-- a line of the usage, where it is of the command of a name, or where there is no name
abbrev pub line_for : Option (List ℕ) → List ℕ → List ℕ
line_for None line = line
line_for (Some name) line = if is_usage_of name line then line else []

-- the lines of the usage that are of the command of a name, and without a name all of them
unfoldable pub usage_for : Option (List ℕ) → List ℕ
usage_for name = flat_map (λ line. line_for name line.now) USAGE

-- how the command of a name is used
abbrev pub usage_of : List ℕ → List ℕ
usage_of name = codes "usage:\n" ++ usage_for (Some name)

-- ---- a name that is none of a command

-- a word that asks which commands there are
abbrev pub asks_for_usage : List ℕ → Bool
asks_for_usage word = bytes_eq word (codes "-h") || bytes_eq word (codes "--help")

abbrev pub unknown_name : List ℕ → List ℕ
unknown_name name = if asks_for_usage name then [] else codes "gnap: `" ++ shown_text name ++ codes "` is no command\n"

abbrev pub name_hint : List (List ℕ) → List ℕ
name_hint [] = usage_for None
name_hint (name ∷ arguments) = unknown_name name ++ usage_for None

-- ---- a number of words that the command doesn't take

-- what follows the first of two counts
abbrev pub last_count : ℕ → ℕ → List ℕ → List ℕ
last_count least most digits = if nat_lt least most then codes " or " ++ digits else []

abbrev pub words_text : ℕ → List ℕ
words_text most = if most == 1 then codes " word" else codes " words"

abbrev pub count_line : List ℕ → List ℕ → List ℕ → List ℕ → List ℕ
count_line name counts words given =
    codes "gnap: `" ++ name ++ codes "` takes " ++ counts ++ words ++ codes " after it, and there are " ++ given ++ codes "\n"

-- of a name with so many words behind it, and how many it takes
abbrev pub miscount : List ℕ → ℕ → ℕ → ℕ → List ℕ
miscount name given least most = count_line name (decimal least ++ last_count least most (decimal most)) (words_text most) (decimal given)

abbrev pub miscount_for : List ℕ → ℕ → Option (ℕ × ℕ) → List ℕ
miscount_for name given None = []
miscount_for name given (Some counts) = miscount name given counts.0 counts.1

abbrev pub count_hint : List (List ℕ) → List ℕ
count_hint [] = []
count_hint (name ∷ arguments) = miscount_for name (length arguments) (counts_of name) ++ usage_of name

-- ---- a word that isn't of its form

-- what it is none of
abbrev pub form_text : WordForm → List ℕ
form_text forms.Argument = codes "argument: an argument isn't empty, and doesn't begin with `-`"
form_text forms.FieldKind = codes "kind of field (item, list or dictionary)"
form_text forms.HashMethod = codes "hash method (sha-256 or sha-512)"
form_text forms.Moment = codes "moment (0 to 253402300799, in seconds since 1970)"
form_text forms.Nonce = codes "nonce (1 to 64 letters, digits, `.`, `_` or `-`, the first of them no `-`)"
form_text forms.Workers = codes "number of workers (1 to 64)"
form_text forms.Connections = codes "number of connections (0 to 1000000)"
form_text forms.Replies = codes "number of replies to keep (1 to 16384)"
form_text forms.Grants = codes "number of grants (1 to 100000)"
form_text forms.Start = codes "start (0 to 18446744073709551615)"

abbrev pub misformed : WordForm → Option (List ℕ) → List ℕ
misformed form None = []
misformed form (Some word) = codes "gnap: `" ++ shown_text word ++ codes "` is no " ++ form_text form ++ codes "\n"

-- of the word at a place after the command's name
abbrev pub word_hint : ℕ → WordForm → List (List ℕ) → List ℕ
word_hint place form [] = []
word_hint place form (name ∷ arguments) = misformed form (slice_get arguments place) ++ usage_of name
