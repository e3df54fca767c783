-- Texts that lie one behind the other: what stands at a place stays there when more texts follow.
use Rattle.std.proofs.Common.{◌≡◌, ◌∙◌, ℕ, ◌-◌, ◌≤◌, Bool, true, false, true≢false, ◌&&◌, ◌||◌, List, [], ◌∷◌, ◌++◌, length, take, drop, refl, ap, sym, arith, length-append, length-drop}
use Rattle.std.specs.List.{list_any, list_all, slice_range}
use Rattle.std.specs.Cmp.Derive.{both_true}
use Rattle.std.proofs.lemmas.Bool.{le-leb, leb-true}
use Rattle.std.proofs.lemmas.List.{take-append-le, drop-append-le, take-append-drop}
use Rattle.std.proofs.lemmas.List.Folds.{list_any-append, list_all-append}
use Rattle.std.proofs.Math.Bool.{or-false}
use Rattle.std.proofs.Math.Seq.{drop-append_seam, take-append_seam, drop-append-add}
use Rattle.gnap_model.specs.Common.{same_text}
use Rattle.nonce_store.specs.declared.run.Place.{Place}
use Rattle.nonce_store.specs.Places.{is_within, is_at, IsNext}

and_left : (a b : Bool) → (a && b) ≡ true → a ≡ true
and_left true b is = refl
and_left false b is = is

and_right : (a b : Bool) → (a && b) ≡ true → b ≡ true
and_right true b is = is
and_right false b is = absurd (true≢false (sym is))

-- the place lies in order within so many bytes
record Within (bytes : ℕ) (place : Place) : Type 0 where
  pub starts : place.start ≤ place.middle
  pub goes_on : place.middle ≤ place.end
  pub ends : place.end ≤ bytes

within : (bytes : ℕ) (place : Place) → is_within bytes place ≡ true → Within bytes place
within bytes place is =
    let rest = and_right _ _ is in
    record {
      starts = leb-true place.start place.middle (and_left _ _ is);
      goes_on = leb-true place.middle place.end (and_left _ _ rest);
      ends = leb-true place.end bytes (and_right _ _ rest);
    }

tested : (bytes : ℕ) (place : Place) → Within bytes place → is_within bytes place ≡ true
tested bytes place w =
    both_true (le-leb place.start place.middle w.starts)
    (both_true (le-leb place.middle place.end w.goes_on) (le-leb place.end bytes w.ends))

one_within : (few many : ℕ) (place : Place) → few ≤ many → is_within few place ≡ true → is_within many place ≡ true
one_within few many place le is =
    let w = within few place is in
    tested many place (record { starts = w.starts; goes_on = w.goes_on; ends = omega arith })

pub all_within : (few many : ℕ) (places : List Place) → few ≤ many → list_all (is_within few) places ≡ true → list_all (is_within many) places ≡ true
all_within few many [] le is = refl
all_within few many (place ∷ places) le is =
    both_true (one_within few many place le (and_left _ _ is)) (all_within few many places le (and_right _ _ is))

pub one_more_within : (few many : ℕ) (places : List Place) (place : Place) → few ≤ many → list_all (is_within few) places ≡ true
    → is_within many place ≡ true → list_all (is_within many) (places ++ place ∷ []) ≡ true
one_more_within few many places place le is here =
    list_all-append (is_within many) places (place ∷ []) ∙ both_true (all_within few many places le is) (both_true here refl)

range_stays : (texts more : List ℕ) (from to : ℕ) → from ≤ to → to ≤ length texts → slice_range (texts ++ more) from to ≡ slice_range texts from to
range_stays texts more from to order ends =
    let starts : from ≤ length texts = omega arith in
    let left : to - from ≤ length (drop from texts) = omega (arith, length-drop {A = ℕ}) in
    ap (take (to - from)) (drop-append-le from texts more starts) ∙ take-append-le (to - from) (drop from texts) more left

at_stays : (texts more key nonce : List ℕ) (place : Place) → is_within (length texts) place ≡ true
    → is_at (texts ++ more) key nonce place ≡ is_at texts key nonce place
at_stays texts more key nonce place is =
    let w = within (length texts) place is in
    let of_key : slice_range (texts ++ more) place.start place.middle ≡ slice_range texts place.start place.middle
    = range_stays texts more place.start place.middle w.starts (omega arith) in
    let of_nonce : slice_range (texts ++ more) place.middle place.end ≡ slice_range texts place.middle place.end
    = range_stays texts more place.middle place.end w.goes_on w.ends in
    ap (λ (t : List ℕ). same_text t key && same_text (slice_range (texts ++ more) place.middle place.end) nonce) of_key
    ∙ ap (λ (t : List ℕ). same_text (slice_range texts place.start place.middle) key && same_text t nonce) of_nonce

pub any_stays : (texts more key nonce : List ℕ) (places : List Place) → list_all (is_within (length texts)) places ≡ true
    → list_any (is_at (texts ++ more) key nonce) places ≡ list_any (is_at texts key nonce) places
any_stays texts more key nonce [] is = refl
any_stays texts more key nonce (place ∷ places) is =
    ap (λ b. b || list_any (is_at (texts ++ more) key nonce) places) (at_stays texts more key nonce place (and_left _ _ is))
    ∙ ap (λ b. is_at texts key nonce place || b) (any_stays texts more key nonce places (and_right _ _ is))

-- the same, where the texts are a beginning of others
pub any_begun : (texts new key nonce : List ℕ) (places : List Place) → take (length texts) new ≡ texts → list_all (is_within (length texts)) places ≡ true
    → list_any (is_at new key nonce) places ≡ list_any (is_at texts key nonce) places
any_begun texts new key nonce places begun is =
    let whole : new ≡ texts ++ drop (length texts) new = sym (take-append-drop (length texts) new) ∙ ap (λ (t : List ℕ). t ++ drop (length texts) new) begun in
    ap (λ (t : List ℕ). list_any (is_at t key nonce) places) whole ∙ any_stays texts (drop (length texts) new) key nonce places is

all_of : (xs ys : List ℕ) → take (length xs) (xs ++ ys) ≡ xs
all_of xs ys = take-append_seam xs ys

whole_take : (xs : List ℕ) → take (length xs) xs ≡ xs
whole_take [] = refl
whole_take (x ∷ xs) = ap (λ (t : List ℕ). x ∷ t) (whole_take xs)

-- a key and a nonce behind the texts stand at the next place
at_next : (texts key nonce k n : List ℕ) (place : Place) → IsNext (length texts) (length key) (length nonce) place
    → is_at (texts ++ (key ++ nonce)) k n place ≡ (same_text key k && same_text nonce n)
at_next texts key nonce k n place next =
    let starts = next.starts in
    let middle = next.middle in
    let ends = next.ends in
    let key_len : place.middle - place.start ≡ length key = omega arith in
    let nonce_len : place.end - place.middle ≡ length nonce = omega arith in
    let of_key : slice_range (texts ++ (key ++ nonce)) place.start place.middle ≡ key
    = ap (λ i. take i (drop place.start (texts ++ (key ++ nonce)))) key_len
    ∙ ap (λ i. take (length key) (drop i (texts ++ (key ++ nonce)))) starts
    ∙ ap (take (length key)) (drop-append_seam texts (key ++ nonce))
    ∙ take-append_seam key nonce in
    let of_nonce : slice_range (texts ++ (key ++ nonce)) place.middle place.end ≡ nonce
    = ap (λ i. take i (drop place.middle (texts ++ (key ++ nonce)))) nonce_len
    ∙ ap (λ i. take (length nonce) (drop i (texts ++ (key ++ nonce)))) middle
    ∙ ap (take (length nonce)) (drop-append-add texts (key ++ nonce) (length key) ∙ drop-append_seam key nonce)
    ∙ whole_take nonce in
    ap (λ (t : List ℕ). same_text t k && same_text (slice_range (texts ++ (key ++ nonce)) place.middle place.end) n) of_key
    ∙ ap (λ (t : List ℕ). same_text key k && same_text t n) of_nonce

pub any_next : (texts key nonce k n : List ℕ) (places : List Place) (place : Place) → list_all (is_within (length texts)) places ≡ true
    → IsNext (length texts) (length key) (length nonce) place
    → list_any (is_at (texts ++ (key ++ nonce)) k n) (places ++ place ∷ [])
    ≡ (list_any (is_at texts k n) places || (same_text key k && same_text nonce n))
any_next texts key nonce k n places place is next =
    list_any-append (is_at (texts ++ (key ++ nonce)) k n) places (place ∷ [])
    ∙ ap (λ b. b || (is_at (texts ++ (key ++ nonce)) k n place || false)) (any_stays texts (key ++ nonce) k n places is)
    ∙ ap (λ b. list_any (is_at texts k n) places || b) (or-false (is_at (texts ++ (key ++ nonce)) k n place)
    ∙ at_next texts key nonce k n place next)

pub next_within : (texts key nonce : List ℕ) (place : Place) → IsNext (length texts) (length key) (length nonce) place
    → is_within (length (texts ++ (key ++ nonce))) place ≡ true
next_within texts key nonce place next =
    let starts = next.starts in
    let middle = next.middle in
    let ends = next.ends in
    tested (length (texts ++ (key ++ nonce))) place (record {
      starts = omega arith;
      goes_on = omega arith;
      ends = omega (arith, length-append {A = ℕ});
    })

-- ---- what a push leaves

-- the places with one more
pub pushed_within : (texts new key nonce : List ℕ) (places after : List Place) (place : Place) → after ≡ places ++ place ∷ []
    → list_all (is_within (length texts)) places ≡ true → new ≡ texts ++ (key ++ nonce)
    → IsNext (length texts) (length key) (length nonce) place
    → list_all (is_within (length new)) after ≡ true
pushed_within texts new key nonce places after place pushed is more next =
    ap (λ (t : List ℕ). list_all (is_within (length t)) after) more
    ∙ ap (λ (ps : List Place). list_all (is_within (length (texts ++ (key ++ nonce)))) ps) pushed
    ∙ one_more_within (length texts) (length (texts ++ (key ++ nonce))) places place le is (next_within texts key nonce place next)
  where
    le : length texts ≤ length (texts ++ (key ++ nonce))
    le = omega (arith, length-append {A = ℕ})

-- the same places, where more texts follow
pub kept_within : (few many : ℕ) (places after : List Place) → after ≡ places → few ≤ many → list_all (is_within few) places ≡ true
    → list_all (is_within many) after ≡ true
kept_within few many places after same le is = ap (list_all (is_within many)) same ∙ all_within few many places le is

pub kept_any : (texts new : List ℕ) (places after : List Place) → after ≡ places → take (length texts) new ≡ texts
    → list_all (is_within (length texts)) places ≡ true
    → (k n : List ℕ) → list_any (is_at new k n) after ≡ list_any (is_at texts k n) places
kept_any texts new places after same begun is k n = ap (list_any (is_at new k n)) same ∙ any_begun texts new k n places begun is

pub pushed_any : (texts new key nonce : List ℕ) (places room after : List Place) (place : Place) → room ≡ places → after ≡ room ++ place ∷ []
    → new ≡ texts ++ (key ++ nonce) → list_all (is_within (length texts)) places ≡ true
    → IsNext (length texts) (length key) (length nonce) place
    → (k n : List ℕ) → list_any (is_at new k n) after ≡ (list_any (is_at texts k n) places || (same_text key k && same_text nonce n))
pushed_any texts new key nonce places room after place same pushed more is next k n =
    ap (λ (t : List ℕ). list_any (is_at t k n) after) more
    ∙ ap (list_any (is_at (texts ++ (key ++ nonce)) k n)) (pushed ∙ ap (λ (ps : List Place). ps ++ place ∷ []) same)
    ∙ any_next texts key nonce k n places place is next
