-- What was written is read again, whatever follows it.
use Rattle.std.proofs.Common.{◌≡◌, ℕ, zero, suc, ◌+◌, ◌*◌, ◌/◌, ◌%◌, ◌<◌, ◌≤◌, Bool, true, false, List, [], ◌∷◌, ◌++◌, length, replicate, Some, None, refl, sym, ap, subst, ◌∙◌, append_assoc, arith}
use Rattle.std.specs.List.{flat_map}
use Rattle.std.proofs.lemmas.List.{take_at, drop_at, length-append, append-nil}
use Rattle.std.proofs.lemmas.List.Concat.{flat_map-cons}
use Rattle.gnap_model.specs.Common.{Text}
use Rattle.gnap_model.specs.declared.rights.Right.{Right}
use Rattle.gnap_model.specs.declared.rights.Right.TheVariants.{Reference, Object}
use Rattle.gnap_model.specs.declared.objects.Ask.{Ask}
use Rattle.kept_rights.specs.Written.{written_length, written_text, written_option, written_list, written_bool, written_texts, written_object, written_right, written_rights, written_ask, written_asks}
use Rattle.kept_rights.proofs.LengthSteps.{last_read, full_read}
use Rattle.kept_rights.specs.Reading.{length_from, length_at, text_at, read_as, option_at, items_at, list_at, bool_at, texts_at, object_at, right_at, ask_at, rights_in, asks_in}

-- ---- lengths

length_more : (k before byte n : ℕ) (rest : List ℕ) → byte < 255 → n ≡ before + (k * 255 + byte) → n ≤ length rest
    → length_from before (replicate k 255 ++ byte ∷ rest) ≡ (n, rest)
length_more zero before byte n rest lt e le =
    let same : before + byte ≡ n = omega arith in
    subst (λ (m : ℕ). length_from before (byte ∷ rest) ≡ (m, rest)) same (last_read before byte rest lt (omega arith))
length_more (suc k) before byte n rest lt e le =
    full_read before 255 (replicate k 255 ++ byte ∷ rest) (omega arith) (omega (arith, length-append (replicate k 255) (byte ∷ rest)))
    ∙ length_more k (before + 255) byte n rest lt (omega arith) le

pub length_again : (n : ℕ) (rest : List ℕ) → n ≤ length rest → length_at (written_length n ++ rest) ≡ (n, rest)
unfolding written_length
length_again n rest le =
    ap (length_from 0) (append_assoc (replicate (n / 255) 255) (n % 255 ∷ []) rest) ∙ length_more (n / 255) 0 (n % 255) n rest (omega arith) (omega arith) le

pub length_is_some : (n : ℕ) → 0 < length (written_length n)
unfolding written_length
length_is_some n = omega (arith, length-append (replicate (n / 255) 255) (n % 255 ∷ []))

-- ---- what a reader gives back of what was written

-- the reader gives back what was written, and what follows it
abbrev pub Again : {X : Type 0} → (X → List ℕ) → (List ℕ → X × List ℕ) → Type 0
Again {X} written read = (x : X) (rest : List ℕ) → read (written x ++ rest) ≡ (x, rest)

pub text_again : Again written_text text_at
unfolding text_at
text_again text rest =
    let room : length text ≤ length (text ++ rest) = omega (arith, length-append text rest) in
    rw (
      append_assoc (written_length (length text)) text rest,
      length_again (length text) (text ++ rest) room,
      take_at text rest (length text) refl,
      drop_at
          text rest (length text) refl,
    ) refl

pub option_again : {X : Type 0} (written : X → List ℕ) (read : List ℕ → X × List ℕ) → Again written read → Again (written_option written) (option_at read)
unfolding option_at
option_again written read again None rest = refl
option_again written read again (Some x) rest = ap (read_as Some) (again x rest)

items_again : {X : Type 0} (written : X → List ℕ) (read : List ℕ → X × List ℕ) → Again written read → (xs : List X) (rest : List ℕ)
    → items_at read (length xs) (flat_map written xs ++ rest) ≡ (xs, rest)
unfolding items_at
items_again written read again [] rest = refl
items_again written read again (x ∷ xs) rest =
    let regrouped : flat_map written (x ∷ xs) ++ rest ≡ written x
    ++ (flat_map written xs ++ rest) = ap (λ (ys : List ℕ). ys ++ rest) (flat_map-cons written x xs)
    ∙ append_assoc (written x) (flat_map written xs) rest in
    ap (items_at read (suc (length xs))) regrouped ∙ rw (again x (flat_map written xs ++ rest), items_again written read again xs rest) refl

-- items of a byte or more each
room_for : {X : Type 0} (written : X → List ℕ) → ((x : X) → 0 < length (written x)) → (xs : List X) → length xs ≤ length (flat_map written xs)
room_for written some [] = omega arith
room_for written some (x ∷ xs) = rw (flat_map-cons written x xs)
    (omega (arith, some x, room_for written some xs, length-append (written x) (flat_map written xs)))

pub list_again : {X : Type 0} (written : X → List ℕ) (read : List ℕ → X × List ℕ) → ((x : X) → 0 < length (written x)) → Again written read
    → Again (written_list written) (list_at read)
unfolding list_at
list_again written read some again xs rest =
    let room : length xs ≤ length (flat_map written xs ++ rest) = omega (arith, room_for written some xs, length-append (flat_map written xs) rest) in
    rw (append_assoc (written_length (length xs)) (flat_map written xs) rest, length_again (length xs) (flat_map written xs ++ rest) room)
    (items_again written read again xs rest)

text_is_some : (text : Text) → 0 < length (written_text text)
text_is_some text = omega (arith, length_is_some (length text), length-append (written_length (length text)) text)

texts_again : Again written_texts texts_at
texts_again = list_again written_text text_at text_is_some text_again

bool_again : Again written_bool bool_at
unfolding bool_at
bool_again true rest = refl
bool_again false rest = refl

bool_is_some : (b : Bool) → 0 < length (written_bool b)
bool_is_some true = omega arith
bool_is_some false = omega arith

-- ---- rights and asks

object_again : Again written_object object_at
unfolding written_object object_at
object_again object rest =
    let dimension = option_again written_texts texts_at texts_again in
    let label = option_again written_text text_at text_again in
    let last : List ℕ = written_text object.further ++ rest in
    let after5 : List ℕ = written_option written_text object.identifier ++ last in
    let after4 : List ℕ = written_option written_texts object.privileges ++ after5 in
    let after3 : List ℕ = written_option written_texts object.datatypes ++ after4 in
    let after2 : List ℕ = written_option written_texts object.locations ++ after3 in
    let after1 : List ℕ = written_option written_texts object.actions ++ after2 in
    let regrouped : written_object object ++ rest ≡ written_text object.kind ++ after1 = simp append_assoc in
    ap object_at regrouped ∙ rw (
      text_again object.kind after1,
      dimension object.actions after2,
      dimension object.locations after3,
      dimension object.datatypes
          after4,
      dimension object.privileges after5,
      label object.identifier last,
      text_again object.further rest,
    ) refl

right_again : Again written_right right_at
unfolding right_at
right_again (Reference name) rest = ap (read_as Reference) (text_again name rest)
right_again (Object object) rest = ap (read_as Object) (object_again object rest)

right_is_some : (right : Right) → 0 < length (written_right right)
right_is_some (Reference name) = omega arith
right_is_some (Object object) = omega arith

rights_read : Again written_rights (list_at right_at)
rights_read = list_again written_right right_at right_is_some right_again

ask_again : Again written_ask ask_at
unfolding written_ask ask_at
ask_again ask rest =
    let last : List ℕ = written_bool ask.bearer ++ rest in
    let after : List ℕ = written_rights ask.rights ++ last in
    let regrouped : written_ask ask ++ rest ≡ written_option written_text ask.label ++ after = simp append_assoc in
    ap ask_at regrouped ∙ rw (option_again written_text text_at text_again ask.label after, rights_read ask.rights last, bool_again ask.bearer rest) refl

ask_is_some : (ask : Ask) → 0 < length (written_ask ask)
unfolding written_ask
ask_is_some ask = omega (
  arith,
  length-append (written_option written_text ask.label ++ written_rights ask.rights) (written_bool ask.bearer),
  bool_is_some
      ask.bearer,
)

-- ---- what is kept

pub rights_again : (rights : List Right) → rights_in (written_rights rights) ≡ rights
unfolding rights_in
rights_again rights = ap (λ (bytes : List ℕ). (list_at right_at bytes).0) (sym (append-nil (written_rights rights)))
    ∙ ap (λ (read : List Right × List ℕ). read.0) (rights_read rights [])

pub asks_again : (asks : List Ask) → asks_in (written_asks asks) ≡ asks
unfolding asks_in
asks_again asks = ap (λ (bytes : List ℕ). (list_at ask_at bytes).0) (sym (append-nil (written_asks asks)))
    ∙ ap (λ (read : List Ask × List ℕ). read.0) (list_again written_ask ask_at ask_is_some ask_again asks [])

pub no_rights : rights_in [] ≡ []
unfolding rights_in list_at items_at length_from
no_rights = refl

pub no_asks : asks_in [] ≡ []
unfolding asks_in list_at items_at length_from
no_asks = refl

-- a list that is read has as many items as the length before it says
items_count : {X : Type 0} (read : List ℕ → X × List ℕ) (n : ℕ) (bytes : List ℕ) → length (items_at read n bytes).0 ≡ n
unfolding items_at
items_count read zero bytes = refl
items_count read (suc n) bytes = ap suc (items_count read n (read bytes).1)

pub count_of_asks : (bytes : List ℕ) → (length_at bytes).0 ≡ length (asks_in bytes)
unfolding asks_in list_at
count_of_asks bytes = sym (items_count ask_at (length_at bytes).0 (length_at bytes).1)
