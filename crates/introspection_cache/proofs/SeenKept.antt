-- The kept replies of an `lru` cache, as they are seen.
use Rattle.std.proofs.Common.{◌≡◌, ◌∙◌, ◌-◌, ℕ, zero, suc, Bool, true, false, cond, List, [], ◌∷◌, take, refl, sym, ap}
use Rattle.std.specs.Prelude.{Option, Some, None, option_map, if◌then◌else◌}
use Rattle.std.specs.Global.{Vec}
use Rattle.std.specs.List.{AllByRecursion, IsDistinct}
use Rattle.std.specs.Map.{keys_of, lookup, lookup_entry, remove_entry}
use Rattle.std.specs.Option.{option_map_or}
use Rattle.std.specs.Str.{bytes_eq}
use Rattle.std.proofs.lemmas.Slice.Eq.{bytes_eq-Decides}
use Rattle.lru.specs.LruCache.{lru_cache, promoted, put_entries}
use Rattle.introspection_cache.specs.declared.kept_reply.KeptReply.{KeptReply}
use Rattle.introspection_cache.specs.Caching.{Kept, is_fresh, if_fresh, fresh_to, may_keep, with_reply}
use Rattle.introspection_cache.specs.Seen.{kept_in}

abbrev Entry : Type 0
Entry = Vec ℕ × KeptReply

abbrev seen : Entry → List ℕ × KeptReply
seen e = (e.0.items, e.1)

-- the test of a key
abbrev is_key : List ℕ → Vec ℕ → Bool
is_key text k = bytes_eq text k.items

pub lookup_seen : (text : List ℕ) (es : List Entry) → lookup (bytes_eq text) (kept_in es) ≡ lookup (is_key text) es
lookup_seen text [] = refl
lookup_seen text (e ∷ es) = ap (cond (bytes_eq text e.0.items) (Some e.1)) (lookup_seen text es)

pub remove_seen : (text : List ℕ) (es : List Entry) → remove_entry (bytes_eq text) (kept_in es) ≡ kept_in (remove_entry (is_key text) es)
remove_seen text [] = refl
remove_seen text (e ∷ es) = by (bytes_eq text e.0.items) (remove_seen text es)
  where
    by : (b : Bool) → remove_entry (bytes_eq text) (kept_in es) ≡ kept_in (remove_entry (is_key text) es)
        → cond b (kept_in es) (seen e ∷ remove_entry (bytes_eq text) (kept_in es)) ≡ kept_in (cond b es (e ∷ remove_entry (is_key text) es))
    by true h = refl
    by false h = ap (λ (rest : Kept). seen e ∷ rest) h

entry_seen : (text : List ℕ) (es : List Entry) → lookup_entry (bytes_eq text) (kept_in es) ≡ option_map seen (lookup_entry (is_key text) es)
entry_seen text [] = refl
entry_seen text (e ∷ es) = by (bytes_eq text e.0.items) (entry_seen text es)
  where
    by : (b : Bool) → lookup_entry (bytes_eq text) (kept_in es) ≡ option_map seen (lookup_entry (is_key text) es)
        → cond b (Some (seen e)) (lookup_entry (bytes_eq text) (kept_in es)) ≡ option_map seen (cond b (Some e) (lookup_entry (is_key text) es))
    by true h = refl
    by false h = h

pub promoted_seen : (text : List ℕ) (es : List Entry) → promoted (bytes_eq text) (kept_in es) ≡ kept_in (promoted (is_key text) es)
promoted_seen text es =
    ap (λ (o : Option (List ℕ × KeptReply)). option_map_or (λ e. e ∷ remove_entry (bytes_eq text) (kept_in es)) o (kept_in es)) (entry_seen text es)
    ∙ moved (lookup_entry (is_key text) es)
  where
    moved : (o : Option Entry) → option_map_or (λ e. e ∷ remove_entry (bytes_eq text) (kept_in es)) (option_map seen o) (kept_in es)
        ≡ kept_in (option_map_or (λ e. e ∷ remove_entry (is_key text) es) o es)
    moved None = refl
    moved (Some e) = ap (λ (rest : Kept). seen e ∷ rest) (remove_seen text es)

take_seen : (n : ℕ) (es : List Entry) → take n (kept_in es) ≡ kept_in (take n es)
take_seen zero es = refl
take_seen (suc n) [] = refl
take_seen (suc n) (e ∷ es) = ap (λ (rest : Kept). seen e ∷ rest) (take_seen n es)

-- ---- what isn't there

no_entry : (test : Vec ℕ → Bool) (es : List Entry) → lookup test es ≡ None → lookup_entry test es ≡ None
no_entry test [] h = refl
no_entry test (e ∷ es) h = by (test e.0) h (no_entry test es)
  where
    by : (b : Bool) → cond b (Some e.1) (lookup test es) ≡ None → (lookup test es ≡ None → lookup_entry test es ≡ None)
        → cond b (Some e) (lookup_entry test es) ≡ None
    by true h rest = absurd (cc)
    by false h rest = rest h

-- a reply is put under a question that wasn't there
pub put_seen : (cap : ℕ) (k : Vec ℕ) (r : KeptReply) (es : List Entry) → lookup (bytes_eq k.items) (kept_in es) ≡ None
    → kept_in (put_entries (λ (a b : Vec ℕ). bytes_eq a.items b.items) (lru_cache es cap) k r) ≡ (k.items, r) ∷ take (cap - 1) (kept_in es)
put_seen cap k r es none =
    ap (λ (o : Option Entry). kept_in (option_map_or (λ e. (e.0, r) ∷ remove_entry (is_key k.items) es) o ((k, r) ∷ take (cap - 1) es)))
    (no_entry (is_key k.items) es (sym (lookup_seen k.items es) ∙ none))
    ∙ ap (λ (rest : Kept). (k.items, r) ∷ rest) (sym (take_seen (cap - 1) es))

-- a key that is there is no other's
none_equal : (text : List ℕ) (k : Vec ℕ) (es : List Entry) → bytes_eq text k.items ≡ true
    → AllByRecursion (λ (y : Vec ℕ). bytes_eq k.items y.items ≡ false) (keys_of es) → lookup (is_key text) es ≡ None
none_equal text k [] is all = refl
none_equal text k (e ∷ es) is all =
    let same : text ≡ k.items = (bytes_eq-Decides text k.items).0 is in
    let other : bytes_eq text e.0.items ≡ false = ap (λ (t : List ℕ). bytes_eq t e.0.items) same ∙ all.0 in
    ap (λ (b : Bool). cond b (Some e.1) (lookup (is_key text) es)) other ∙ none_equal text k es is all.1

gone : (text : List ℕ) (es : List Entry) → IsDistinct (λ (a b : Vec ℕ). bytes_eq a.items b.items) (keys_of es)
    → lookup (is_key text) (remove_entry (is_key text) es) ≡ None
unfolding IsDistinct
gone text [] d = refl
gone text (e ∷ es) d = by (bytes_eq text e.0.items) refl d.0 (gone text es d.1)
  where
    by : (b : Bool) → bytes_eq text e.0.items ≡ b → AllByRecursion (λ (y : Vec ℕ). bytes_eq e.0.items y.items ≡ false) (keys_of es)
        → lookup (is_key text) (remove_entry (is_key text) es) ≡ None → lookup (is_key text) (cond b es (e ∷ remove_entry (is_key text) es)) ≡ None
    by true is all rest = none_equal text e.0 es is all
    by false is all rest = ap (λ (b : Bool). cond b (Some e.1) (lookup (is_key text) (remove_entry (is_key text) es))) is ∙ rest

pub gone_seen : (text : List ℕ) (es : List Entry) → IsDistinct (λ (a b : Vec ℕ). bytes_eq a.items b.items) (keys_of es)
    → lookup (bytes_eq text) (kept_in (remove_entry (is_key text) es)) ≡ None
gone_seen text es d = lookup_seen text (remove_entry (is_key text) es) ∙ gone text es d

-- ---- what is kept anew

pub kept_short : (cap : ℕ) (text : List ℕ) (r : KeptReply) (others : Kept) → may_keep text r ≡ true
    → with_reply cap text r others ≡ (text, r) ∷ take (cap - 1) others
kept_short cap text r others is = rw is refl

pub kept_long : (cap : ℕ) (text : List ℕ) (r : KeptReply) (others : Kept) → may_keep text r ≡ false → with_reply cap text r others ≡ others
kept_long cap text r others is = rw is refl

pub put_kept : (cap : ℕ) (k : Vec ℕ) (text : List ℕ) (r : KeptReply) (es : List Entry) → k.items ≡ text → may_keep text r ≡ true
    → lookup (bytes_eq text) (kept_in es) ≡ None
    → kept_in (put_entries (λ (a b : Vec ℕ). bytes_eq a.items b.items) (lru_cache es cap) k r) ≡ with_reply cap text r (kept_in es)
put_kept cap k text r es same short none =
    put_seen cap k r es (ap (λ (t : List ℕ). lookup (bytes_eq t) (kept_in es)) same ∙ none)
    ∙ ap (λ (t : List ℕ). (t, r) ∷ take (cap - 1) (kept_in es)) same ∙ sym (kept_short cap text r (kept_in es) short)

-- ---- what is fresh

pub fresh_there : (text : List ℕ) (now : ℕ) (es : List Entry) (r : KeptReply) → Some r ≡ lookup (is_key text) es → is_fresh now r ≡ true
    → Some r ≡ fresh_to text now (kept_in es)
fresh_there text now es r at is =
    let seen : lookup (bytes_eq text) (kept_in es) ≡ Some r = lookup_seen text es ∙ sym at in
    sym (ap (if_fresh now) seen ∙ ap (λ (b : Bool). if b then Some r else None) is)

pub fresh_no_more : (text : List ℕ) (now : ℕ) (es : List Entry) (r : KeptReply) → Some r ≡ lookup (is_key text) es → is_fresh now r ≡ false
    → None ≡ fresh_to text now (kept_in es)
fresh_no_more text now es r at is =
    let seen : lookup (bytes_eq text) (kept_in es) ≡ Some r = lookup_seen text es ∙ sym at in
    sym (ap (if_fresh now) seen ∙ ap (λ (b : Bool). if b then Some r else None) is)

pub fresh_nowhere : (text : List ℕ) (now : ℕ) (es : List Entry) → None ≡ lookup (is_key text) es → None ≡ fresh_to text now (kept_in es)
fresh_nowhere text now es at = sym (ap (if_fresh now) (lookup_seen text es ∙ sym at))
