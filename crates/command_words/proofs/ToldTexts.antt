-- What is told.
use Rattle.std.proofs.Common.{◌≡◌, ◌∙◌, ◌≤◌, inl, inr, ℕ, ◌+◌, ◌<◌, suc, List, [], ◌∷◌, ◌++◌, length, map, take, drop, get_or, refl, sym, ap, subst, append_assoc, append-nil, arith}
use Rattle.std.specs.Prelude.{Result, Ok, Err, flat_map, min, nat_le, true, codes, if◌then◌else◌}
use Rattle.std.specs.Borrow.{Bor}
use Rattle.std.proofs.Math.Seq.{drop-cons}
use Rattle.std.proofs.lemmas.List.{take-append-drop, take_all, take_more, length-take, length-map, get_or-take, get_or-map}
use Rattle.std.proofs.lemmas.Grind.{flat_map-append, same_number_lists}
use Rattle.bytes_and_lists.specs.Prefixes.{IsPrefix}
use Rattle.outside.specs.Outside.{Told, Writes, HasSent, HasCause, Rose}
use Rattle.outside.proofs.Devices.{writes_then}
use Rattle.command_words.specs.Telling.{HasTold, shown_byte, shown_text}

-- what was written of a text was told
pub told_sent : {E : Type 0} (text : List ℕ) (a b : Told) (n m : ℕ) (r : Result (Unit {0}) E) → HasSent text a b r → HasCause n m r → HasTold text a b n m
told_sent text a b n m (Ok u) sent cause = record {
  sent = text;
  begins = ([], sym (append-nil text));
  writes = sent;
  whole = inl refl;
  grows = cause.later;
}
told_sent text a b n m (Err e) sent cause = record {
  sent = sent.0;
  begins = sent.1;
  writes = sent.2;
  whole = inr cause.failed;
  grows = cause.later;
}

-- what was begun of a text was told
begun_told : (text : List ℕ) (a b : Told) (n m : ℕ) → (sent : List ℕ) × IsPrefix sent text × Writes sent a b → Rose n m → n ≤ m → HasTold text a b n m
begun_told text a b n m x rose grows = record { sent = x.0; begins = x.1; writes = x.2; whole = inr rose; grows = grows }

-- ---- texts of items that are written one behind another

-- the texts of the items before a place, that of the item there, and those of the items behind it
pub items_split : {X : Type 0} (f : X → List ℕ) (i : ℕ) (xs : List X) (d : X) → i < length xs
    → flat_map f xs ≡ (flat_map f (take i xs) ++ f (get_or xs i d)) ++ flat_map f (drop (suc i) xs)
items_split f i xs d inside =
    ap (flat_map f) (sym (take-append-drop i xs)) ∙ flat_map-append f (take i xs) (drop i xs)
    ∙ ap (λ l. flat_map f (take i xs) ++ flat_map f l) (drop-cons xs i d inside)
    ∙ sym (append_assoc (flat_map f (take i xs)) (f (get_or xs i d)) (flat_map f (drop (suc i) xs)))

-- the texts of the items before a place, and that of the item there
items_then : {X : Type 0} (f : X → List ℕ) (i : ℕ) (xs : List X) (d : X) → i < length xs
    → flat_map f (take i xs) ++ f (get_or xs i d) ≡ flat_map f (take (i + 1) xs)
items_then f i xs d inside =
    ap (λ (t : List ℕ). flat_map f (take i xs) ++ t) (sym (append-nil (f (get_or xs i d))))
    ∙ sym (flat_map-append f (take i xs) (get_or xs i d ∷ []))
    ∙ ap (flat_map f) (sym (take_more xs i d inside))

-- the bytes of the pieces
abbrev pub bytes_of : List (Bor (List ℕ)) → List ℕ
bytes_of pieces = flat_map (λ piece. piece.now) pieces

-- behind what was written, a beginning of one more piece was
pub began_behind : (front piece more : List ℕ) (a b c : Told) → Writes front a b → (sent : List ℕ) × IsPrefix sent piece × Writes sent b c
    → (sent : List ℕ) × IsPrefix sent ((front ++ piece) ++ more) × Writes sent a c
began_behind front piece more a b c writes x = (
  front ++ x.0,
  (x.1.0 ++ more, ap (λ (t : List ℕ). (front ++ t) ++ more) x.1.1 ∙ simp (append_assoc)),
  writes_then front x.0 a b c writes x.2,
)

-- ---- a text, and behind it the texts of items

module _ {X : Type 0} (f : X → List ℕ) (front : List ℕ) (xs : List X) where
  -- the front and the items before a place went out, and a beginning of the item there
  pub item_begun : (i : ℕ) (d : X) (a b c : Told) (n m k : ℕ) → i < length xs → Writes (front ++ flat_map f (take i xs)) a b → m ≡ n
      → (sent : List ℕ) × IsPrefix sent (f (get_or xs i d)) × Writes sent b c → Rose m k → m ≤ k → HasTold (front ++ flat_map f xs) a c n k
  item_begun i d a b c n m k inside written same x rose grows =
      let split : ((front ++ flat_map f (take i xs)) ++ f (get_or xs i d)) ++ flat_map f (drop (suc i) xs) ≡ front ++ flat_map f xs
      = simp append_assoc (ap (λ (t : List ℕ). front ++ t) (sym (simp append_assoc at (items_split f i xs d inside)))) in
      subst (λ (t : List ℕ). HasTold t a c n k) split
      (begun_told _ a c n k (began_behind _ _ (flat_map f (drop (suc i) xs)) a b c written x) (subst (λ (l : ℕ). Rose l k) same rose)
      (omega (arith, same, grows)))

  -- one item more went out
  pub item_written : (i : ℕ) (d : X) (a b c : Told) → i < length xs → Writes (front ++ flat_map f (take i xs)) a b → Writes (f (get_or xs i d)) b c
      → Writes (front ++ flat_map f (take (i + 1) xs)) a c
  item_written i d a b c inside written more =
      subst (λ (t : List ℕ). Writes t a c)
      (append_assoc front (flat_map f (take i xs)) (f (get_or xs i d)) ∙ ap (λ (t : List ℕ). front ++ t) (items_then f i xs d inside))
      (writes_then _ _ a b c written more)

  -- all of them went out
  pub items_told : (i : ℕ) (a b : Told) (n m : ℕ) → length xs ≤ i → Writes (front ++ flat_map f (take i xs)) a b → m ≡ n
      → HasTold (front ++ flat_map f xs) a b n m
  items_told i a b n m past written same = record {
    sent = front ++ flat_map f xs;
    begins = ([], sym (append-nil (front ++ flat_map f xs)));
    writes = subst (λ (ys : List X). Writes (front ++ flat_map f ys) a b) (take_all i xs past) written;
    whole = inl refl;
    grows = omega (arith, same);
  }

-- ---- texts that are the same

pub told_as : (text other : List ℕ) (a b : Told) (n m : ℕ) → text ≡ other → HasTold text a b n m → HasTold other a b n m
told_as text other a b n m same told = subst (λ (t : List ℕ). HasTold t a b n m) same told

-- ---- texts that are shown

-- the front of the bytes that were made of a text
pub front_shown : (text shown : List ℕ) → length shown ≡ 64
    → ((k : ℕ) → k < 64 → k < length text → get_or shown k 0 ≡ shown_byte (get_or text k 0))
    → take (length text) shown ≡ map shown_byte (take 64 text)
front_shown text shown long each =
    same_number_lists (take (length text) shown) (map shown_byte (take 64 text))
    (length-take (length text) shown ∙ omega (arith, long) ∙ sym (length-map (take 64 text) shown_byte ∙ length-take 64 text))
    (λ k below.
    let within : k < min (length text) (length shown) = subst (λ (n : ℕ). k < n) (length-take (length text) shown) below in
    let few : k < 64 = omega (arith, within, long) in
    let inside : k < length text = omega (arith, within) in
    let front : k < length (take 64 text) = subst (λ (n : ℕ). k < n) (sym (length-take 64 text)) (omega (arith, few, inside)) in
    get_or-take (length text) shown k 0 inside ∙ each k few inside
    ∙ ap shown_byte (sym (get_or-take 64 text k 0 few)) ∙ sym (get_or-map shown_byte (take 64 text) k 0 0 front))

-- a text of few bytes
pub few_shown : (text shown : List ℕ) → length text ≤ 64 → take (length text) shown ≡ map shown_byte (take 64 text)
    → take (length text) shown ++ [] ≡ shown_text text
few_shown text shown few front =
    let is : nat_le (length text) 64 ≡ true = grind (arith, few) in
    append-nil (take (length text) shown) ∙ front ∙ ap (map shown_byte) (take_all 64 text few)
    ∙ ap (λ b. if b then map shown_byte text else map shown_byte (take 64 text) ++ codes "..") (sym is)

-- a shown text of two pieces
pub two_shown : (shown more text : List ℕ) → shown ++ more ≡ text → shown ++ (more ++ []) ≡ text
two_shown shown more text is = ap (λ (t : List ℕ). shown ++ t) (append-nil more) ∙ is
