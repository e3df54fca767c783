-- Parts of call lines.
use Rattle.std.proofs.Common.{◌≡◌, ◌∙◌, ℕ, ◌+◌, ◌-◌, ◌<◌, ◌≤◌, List, [], ◌∷◌, ◌++◌, length, take, drop, replicate, refl, ap, sym, arith, length-append, add-one, suc, get_or, set, Bool, true, false, cond, ◌⊎◌, inl, inr}
use Rattle.std.specs.Prelude.{Option, Some, None, option_and_then, ◌==◌, nat_lt, if◌then◌else◌, codes}
use Rattle.std.specs.Str.{IsUtf8, is_utf8}
use Rattle.std.proofs.lemmas.Str.{IsUtf8-from_is_utf8, is_utf8-from_IsUtf8}
use Rattle.std.proofs.lemmas.Bool.Decides.{nat_tests}
use Rattle.std.proofs.lemmas.List.{take_all, length-take-le, take-append-drop, drop-set-lt, drop-drop, drop-replicate}
use Rattle.std.proofs.Math.Seq.{take-suc-set, drop-cons}
use Rattle.serde_json.specs.Data.{Data, Items, no_items, item}
use Rattle.serde_json.specs.Read.{read}
use Rattle.serde_json.specs.View.{view, items_view}
use Rattle.serde_json.specs.declared.value.Value.{Value}
use Rattle.gnap_model.specs.declared.objects.Setup.{Setup}
use Rattle.call_replay.specs.declared.call_lines.LineStep.TheVariants.{Say}
use Rattle.call_replay.specs.CallLines.{word_of, filled, words_from, refused, read_step, text_step, line_step}
use Rattle.gnap_model.specs.declared.objects.ErrorCode.TheVariants.{InvalidRequest}

-- ---- the words of a draw

bind_none : (o : Option ℕ) (f : ℕ → Option (List ℕ)) → ((x : ℕ) → f x ≡ None) → option_and_then f o ≡ None
bind_none None f none = refl
bind_none (Some x) f none = none x

one_more : (before : List ℕ) (word : ℕ) → length (before ++ word ∷ []) ≡ length before + 1
one_more before word = length-append before (word ∷ []) ∙ refl

too_many : (before : List ℕ) (ds : Items) → 48 < length before → words_from before ds ≡ None
too_many before no_items long = grind (arith, nat_tests)
too_many before (item d ds) long = bind_none (word_of d) _ (λ word. too_many (before ++ word ∷ []) ds (omega (arith, one_more before word)))

-- no word has a place after 48
pub full : (before : List ℕ) (d : Data) (ds : Items) → length before ≡ 48 → words_from before (item d ds) ≡ None
full before d ds all = bind_none (word_of d) _ (λ word. too_many (before ++ word ∷ []) ds (omega (arith, one_more before word)))

filled_at : (front : List ℕ) → length front ≤ 48 → filled front ≡ Some (front ++ replicate (48 - length front) 0)
filled_at front short = grind (arith, nat_tests)

-- the words that were not given are 0
pub filled_up : (words : List ℕ) (place : ℕ) → place ≤ 48 → length words ≡ 48 → drop place words ≡ replicate (48 - place) 0
    → filled (take place words) ≡ Some words
filled_up words place within size rest =
    let front : length (take place words) ≡ place = length-take-le place words (omega (arith, size)) in
    filled_at (take place words) (omega (arith, front))
    ∙ ap Some (ap (λ n. take place words ++ replicate (48 - n) 0) front ∙ ap (λ x. take place words ++ x) (sym rest) ∙ take-append-drop place words)

-- the next word takes its place
pub word_next : (words : List ℕ) (place word : ℕ) (d : Data) (ds : Items) → place < length words → word_of d ≡ Some word
    → words_from (take (place + 1) (set words place word)) ds ≡ words_from (take place words) (item d ds)
word_next words place word d ds within is =
    ap (λ w. words_from w ds) (ap (λ n. take n (set words place word)) (add-one place) ∙ take-suc-set words place word within)
    ∙ ap (option_and_then (λ w. words_from (take place words ++ w ∷ []) ds)) (sym is)

pub rest_next : (words : List ℕ) (place word : ℕ) → place < 48 → drop place words ≡ replicate (48 - place) 0
    → drop (place + 1) (set words place word) ≡ replicate (48 - (place + 1)) 0
rest_next words place word within rest =
    drop-set-lt (place + 1) words place word (omega arith)
    ∙ sym (drop-drop 1 place words) ∙ ap (drop 1) rest ∙ drop-replicate 1 (48 - place) 0 ∙ ap (λ n. replicate n 0) (omega arith)

-- the items from a place on begin with the item at it
pub view_next : (values : List Value) (i : ℕ) (x : Value) → i < length values → x ≡ get_or values i x
    → items_view (drop i values) ≡ item (view x) (items_view (drop (i + 1) values))
view_next values i x within is =
    ap items_view (drop-cons values i x within ∙ ap (λ y. y ∷ drop (suc i) values) (sym is))
    ∙ ap (λ j. item (view x) (items_view (drop j values))) (sym (add-one i))

-- ---- the text of a line

pub text_is : (setup : Setup) (number : ℕ) (line : List ℕ) (d : Data) → IsUtf8 line × (read line ≡ Some d)
    → text_step setup number line ≡ read_step setup number (Some d)
text_is setup number line d h = rw (is_utf8-from_IsUtf8 line h.0) (ap (read_step setup number) h.1)

none_at : (setup : Setup) (number : ℕ) (line : List ℕ) (b : Bool) → is_utf8 line ≡ b → (IsUtf8 line → read line ≡ None)
    → cond b (read_step setup number (read line)) (refused InvalidRequest) ≡ refused InvalidRequest
none_at setup number line true e h = ap (read_step setup number) (h (IsUtf8-from_is_utf8 line e))
none_at setup number line false e h = refl

pub text_is_none : (setup : Setup) (number : ℕ) (line : List ℕ) → (IsUtf8 line → read line ≡ None) → text_step setup number line ≡ refused InvalidRequest
text_is_none setup number line h = none_at setup number line (is_utf8 line) refl h

-- ---- of a line that is too long no more than one byte past the limit is looked at

third : {A : Type 0} (n : ℕ) (a b c : A) → 131072 < n → (if n == 0 then a else (if nat_lt 131072 n then b else c)) ≡ b
third n a b c long = grind (arith, nat_tests)

long_step : (setup : Setup) (number : ℕ) (line : List ℕ) → 131072 < length line → line_step setup number line ≡ Say (codes "413\n")
unfolding line_step
long_step setup number line long = third (length line) _ _ _ long

pub kept_step : (setup : Setup) (number : ℕ) (full : List ℕ) → line_step setup number full ≡ line_step setup number (take 131073 full)
kept_step setup number full =
    let either : (length full ≤ 131073) ⊎ (131073 < length full) = grind arith in
    elim either [
      | inl short ↦ ap (line_step setup number) (sym (take_all 131073 full short))
      | inr long ↦
          let size : length (take 131073 full) ≡ 131073 = length-take-le 131073 full (omega (arith, long)) in
          long_step setup number full (omega (arith, long)) ∙ sym (long_step setup number (take 131073 full) (omega (arith, size)))
    ]
