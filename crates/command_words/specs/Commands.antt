-- Which command the words of a command line are.
use Rattle.std.specs.Prelude.{◌≡◌, ◌≤◌, ℕ, List, [], ◌∷◌, Bool, true, false, not, ◌==◌, ◌&&◌, IfSome, codes, Option, Some, None, is_some, option_map, option_and_then, slice_get, Result, MatchResult, if◌then◌else◌}
use Rattle.std.specs.List.{list_all}
use Rattle.std.specs.Str.{bytes_eq}
use Rattle.bytes_and_lists.specs.Moments.{last_moment}
use Rattle.message_signature.specs.Marks.{is_nonce}
use Rattle.command_words.specs.declared.command.Command.{Command}
use Rattle.command_words.specs.declared.command.Command.TheVariants.{Replay, Field, Sign, Verify, Serve, Rs, Client, Hash, Load}
use Rattle.command_words.specs.declared.command.Service.{Service}
use Rattle.command_words.specs.declared.command.Service.TheVariants.{Grants, Derivations, Sets}
use Rattle.command_words.specs.declared.command.ServedSetup.{ServedSetup}
use Rattle.printed_answers.specs.declared.fields.Kind.{Kind}
use Rattle.printed_answers.specs.declared.fields.Kind.TheVariants.{Item, List as AList, Dictionary}
use Rattle.command_words.specs.declared.wrong_words.WordForm.{WordForm}
use Rattle.command_words.specs.declared.wrong_words.WordForm.TheVariants as forms
use Rattle.command_words.specs.declared.wrong_words.WrongWords.{WrongWords}
use Rattle.command_words.specs.declared.wrong_words.WrongWords.TheVariants as wrong
use Rattle.command_words.specs.Numbers.{number_within}

-- a word that may be an argument: it isn't empty, and doesn't begin with `-`
abbrev pub is_argument : List ℕ → Bool
is_argument [] = false
is_argument (byte ∷ bytes) = not (byte == 45)

abbrev pub are_arguments : List (List ℕ) → Bool
are_arguments words = list_all is_argument words

-- the kind of field that a word names
abbrev pub kind_of : List ℕ → Option Kind
kind_of word =
    if bytes_eq word (codes "item") then Some Item
    else if bytes_eq word (codes "list") then Some AList
    else if bytes_eq word (codes "dictionary") then Some Dictionary
    else None

-- a word that may be a nonce: 1 to 64 letters, digits, `.`, `_` or `-`, of which the first is no `-`
abbrev pub is_nonce_word : List ℕ → Bool
is_nonce_word word = is_argument word && is_nonce word

-- the moment that a word is, in seconds since 1970
abbrev pub moment_of : List ℕ → Option ℕ
moment_of word = number_within 0 last_moment word

-- ---- the commands, by the words after their names

abbrev pub replay_of : List (List ℕ) → Option Command
replay_of (file ∷ []) = if is_argument file then Some (Replay file) else None
replay_of _ = None

abbrev pub field_of : List (List ℕ) → Option Command
field_of (kind ∷ file ∷ []) = if is_argument file then option_map (λ k. Field k file) (kind_of kind) else None
field_of _ = None

-- three words, four, or four and one more that may be left out
abbrev pub with_three : (List ℕ → List ℕ → List ℕ → Option Command) → List (List ℕ) → Option Command
with_three f (first ∷ second ∷ third ∷ []) = f first second third
with_three f _ = None

abbrev pub with_four : (List ℕ → List ℕ → List ℕ → List ℕ → Option Command) → List (List ℕ) → Option Command
with_four f (first ∷ second ∷ third ∷ fourth ∷ []) = f first second third fourth
with_four f _ = None

abbrev pub four_or_five : (List ℕ → List ℕ → List ℕ → List ℕ → Option (List ℕ) → Option Command) → List (List ℕ) → Option Command
four_or_five f (first ∷ second ∷ third ∷ fourth ∷ []) = f first second third fourth None
four_or_five f (first ∷ second ∷ third ∷ fourth ∷ fifth ∷ []) = f first second third fourth (Some fifth)
four_or_five f _ = None

-- a word that is left out, or may be a nonce
abbrev pub may_be_nonce : Option (List ℕ) → Bool
may_be_nonce None = true
may_be_nonce (Some word) = is_nonce_word word

abbrev pub sign_words : List ℕ → List ℕ → List ℕ → List ℕ → Option (List ℕ) → Option Command
sign_words config key created file nonce =
    if are_arguments (config ∷ key ∷ file ∷ []) && may_be_nonce nonce
    then option_map (λ moment. Sign config key moment file nonce) (moment_of created) else None

abbrev pub verify_words : List ℕ → List ℕ → List ℕ → Option Command
verify_words config now file = if are_arguments (config ∷ file ∷ []) then option_map (λ moment. Verify config moment file) (moment_of now) else None

-- a setup, an address, 1 to 64 workers, and at most 1,000,000 connections for each
abbrev pub served_setup : List ℕ → List ℕ → List ℕ → List ℕ → Option ServedSetup
served_setup config listen workers quota =
    if are_arguments (config ∷ listen ∷ [])
    then option_and_then (λ n. option_map (λ most. record { config = config; listen = listen; workers = n; quota = most }) (number_within 0 1000000 quota))
    (number_within 1 64 workers)
    else None

-- its resource sets
abbrev pub sets_words : List ℕ → List ℕ → List ℕ → List ℕ → Option Command
sets_words config listen workers quota = option_map (Serve Sets) (served_setup config listen workers quota)

-- its authorization server, which derives tokens where there is a word for a file of pairs
abbrev pub grants_service : Option (List ℕ) → Option Service
grants_service None = Some Grants
grants_service (Some pairs) = if is_argument pairs then Some (Derivations pairs) else None

abbrev pub as_words : List ℕ → List ℕ → List ℕ → List ℕ → Option (List ℕ) → Option Command
as_words config listen workers quota pairs =
    option_and_then (λ served. option_map (λ service. Serve service served) (grants_service pairs)) (served_setup config listen workers quota)

-- at most 1,000,000 connections, and 1 to 16,384 replies in a cache where there is a word for it
abbrev pub replies_of : Option (List ℕ) → Option (Option ℕ)
replies_of None = Some None
replies_of (Some word) = option_map Some (number_within 1 16384 word)

abbrev pub rs_words : List ℕ → List ℕ → List ℕ → List ℕ → Option (List ℕ) → Option Command
rs_words config listen server quota cache =
    if are_arguments (config ∷ listen ∷ server ∷ [])
    then option_and_then (λ most. option_map (λ kept. Rs config listen server most kept) (replies_of cache)) (number_within 0 1000000 quota)
    else None

abbrev pub client_words : List ℕ → List ℕ → List ℕ → Option Command
client_words config address script = if are_arguments (config ∷ address ∷ script ∷ []) then Some (Client config address script) else None

-- whether a hash method is the long one (RFC 9635, section 4.2.3), where the word names one
abbrev pub long_method : List ℕ → Option Bool
long_method word = if bytes_eq word (codes "sha-256") then Some false else if bytes_eq word (codes "sha-512") then Some true else None

abbrev pub hash_words : List ℕ → List ℕ → List ℕ → List ℕ → List ℕ → Option Command
hash_words method client server reference uri =
    if are_arguments (client ∷ server ∷ reference ∷ uri ∷ [])
    then option_map (λ long. Hash (record { long = long; client_nonce = client; server_nonce = server; reference = reference; endpoint = uri }))
    (long_method method)
    else None

abbrev pub hash_of : List (List ℕ) → Option Command
hash_of [] = None
hash_of (method ∷ texts) = with_four (hash_words method) texts

-- 1 to 100,000 grants, a start of 64 bits, and 1 to 64 workers
abbrev pub load_words : List ℕ → List ℕ → List ℕ → Option Command
load_words grants start workers =
    option_and_then (λ n. option_and_then (λ first. option_map (λ w. Load n first w) (number_within 1 64 workers))
    (number_within 0 18446744073709551615 start)) (number_within 1 100000 grants)

-- how many words the command of a name takes, at least and at most
abbrev pub counts_of : List ℕ → Option (ℕ × ℕ)
counts_of name =
    if bytes_eq name (codes "replay") then Some (1, 1)
    else if bytes_eq name (codes "field") then Some (2, 2)
    else if bytes_eq name (codes "sign") then Some (4, 5)
    else if bytes_eq name (codes "verify") then Some (3, 3)
    else if bytes_eq name (codes "as") then Some (4, 5)
    else if bytes_eq name (codes "sets") then Some (4, 4)
    else if bytes_eq name (codes "rs") then Some (4, 5)
    else if bytes_eq name (codes "client") then Some (3, 3)
    else if bytes_eq name (codes "hash") then Some (5, 5)
    else if bytes_eq name (codes "load") then Some (3, 3)
    else None

abbrev pub command_named : List ℕ → List (List ℕ) → Option Command
command_named name arguments =
    if bytes_eq name (codes "replay") then replay_of arguments
    else if bytes_eq name (codes "field") then field_of arguments
    else if bytes_eq name (codes "sign") then four_or_five sign_words arguments
    else if bytes_eq name (codes "verify") then with_three verify_words arguments
    else if bytes_eq name (codes "as") then four_or_five as_words arguments
    else if bytes_eq name (codes "sets") then with_four sets_words arguments
    else if bytes_eq name (codes "rs") then four_or_five rs_words arguments
    else if bytes_eq name (codes "client") then with_three client_words arguments
    else if bytes_eq name (codes "hash") then hash_of arguments
    else if bytes_eq name (codes "load") then with_three load_words arguments
    else None

abbrev pub command_of : List (List ℕ) → Option Command
command_of [] = None
command_of (name ∷ arguments) = command_named name arguments

-- ---- how they are read

-- which of its counts of words a command is asked for, where so many are given
abbrev pub count_among : ℕ → ℕ → ℕ → ℕ
count_among least most given = if given == most then most else least

-- whether a word is of a form
abbrev pub is_of : WordForm → List ℕ → Bool
is_of forms.Argument word = is_argument word
is_of forms.FieldKind word = is_some (kind_of word)
is_of forms.HashMethod word = is_some (long_method word)
is_of forms.Moment word = is_some (moment_of word)
is_of forms.Nonce word = is_nonce_word word
is_of forms.Workers word = is_some (number_within 1 64 word)
is_of forms.Connections word = is_some (number_within 0 1000000 word)
is_of forms.Grants word = is_some (number_within 1 100000 word)
is_of forms.Replies word = is_some (number_within 1 16384 word)
is_of forms.Start word = is_some (number_within 0 18446744073709551615 word)

-- Memory ran out, or the words are no command, and where one of those after the name is at fault, it isn't of this form.
abbrev pub AreWrong : {A : Type 0} → WrongWords → List (List ℕ) → Option A → Type 0
AreWrong wrong.OutOfMemory words reading = Unit {0}
AreWrong wrong.NoCommand words reading = reading ≡ None
AreWrong wrong.Count words reading = reading ≡ None
AreWrong (wrong.Word place form) words reading = (reading ≡ None) × (option_map (is_of form) (slice_get words place) ≡ Some false)

-- what was read of the words after the name is this, or they are wrong
abbrev pub AreRead : {A : Type 0} → Result A WrongWords → List (List ℕ) → Option A → Type 0
AreRead result words reading = MatchResult result (λ command. reading ≡ Some command) (λ fault. AreWrong fault words reading)

-- there are 1 to 64 workers
abbrev pub AreFewWorkers : ServedSetup → Type 0
AreFewWorkers served = (1 ≤ served.workers) × (served.workers ≤ 64)

-- the words of a command are in their ranges: moments before the year 10000, nonces that can be written, 1 to 64 workers, and 1 to 16,384 replies in a cache
abbrev pub IsWithinRanges : Command → Type 0
IsWithinRanges (Replay file) = Unit {0}
IsWithinRanges (Field kind file) = Unit {0}
IsWithinRanges (Sign config key created file nonce) = (created ≤ last_moment) × IfSome nonce (λ n. is_nonce n ≡ true)
IsWithinRanges (Verify config now file) = now ≤ last_moment
IsWithinRanges (Serve service served) = AreFewWorkers served
IsWithinRanges (Rs config listen server quota cache) = IfSome cache (λ n. (1 ≤ n) × (n ≤ 16384))
IsWithinRanges (Client config address script) = Unit {0}
IsWithinRanges (Hash texts) = Unit {0}
IsWithinRanges (Load grants start workers) = (1 ≤ workers) × (workers ≤ 64)
