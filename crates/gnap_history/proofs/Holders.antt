-- Grants and the continuation values that they had.
use Rattle.std.proofs.Common.{◌≡◌, ℕ, Bool, true, false, List, [], ◌∷◌, reverse, refl}
use Rattle.std.specs.Prelude.{not, ◌&&◌, ◌==◌}
use Rattle.std.specs.List.{list_any}
use Rattle.std.specs.Option.{option_or}
use Rattle.std.proofs.lemmas.Bool.{or_parts, eqb-true}
use Rattle.std.proofs.lemmas.List.{reverse-append}
use Rattle.std.proofs.lemmas.List.Folds.{list_any-append}
use Rattle.gnap_model.specs.Common.{Text, same_text, first_of, some_if, is_text}
use Rattle.gnap_model.specs.Standing.{door_in, is_door_of}
use Rattle.gnap_model.specs.declared.notes.Note.{Note}
use Rattle.gnap_model.specs.declared.notes.Note.TheVariants.{Opened, Terms, Approved, Issued, Door, Pended, DecidedAs, Finalized, Wrong, Retired}
use Rattle.gnap_history.specs.Holders.{is_held_by_other}

pub not_held : (a b : Bool) → (a && not b) ≡ false → b ≡ false → a ≡ false
not_held true true h e = cc e
not_held true false h e = cc h
not_held false b h e = refl

other_door : (trail : List Note) (g h : ℕ) (value : Text) → list_any (is_held_by_other g value) trail ≡ false → (h == g) ≡ false
    → is_text value (first_of (door_in h) trail) ≡ false
other_door [] g h value none other = refl
other_door (Door k v e ∷ trail) g h value none other =
    let parts = or_parts (same_text v value && not (k == g)) (list_any (is_held_by_other g value) trail) none in
    step (k == h) (λ same. not_held (same_text v value) (k == g) parts.0 (let is = eqb-true k h same in rw is other)) (other_door trail g h value parts.1 other)
  where
    step : (b : Bool) → (b ≡ true → same_text v value ≡ false) → is_text value (first_of (door_in h) trail) ≡ false
        → is_text value (option_or (some_if b v) (first_of (door_in h) trail)) ≡ false
    step true here rest = here refl
    step false here rest = rest
other_door (Opened o ∷ trail) g h value none other = other_door trail g h value none other
other_door (Terms t ∷ trail) g h value none other = other_door trail g h value none other
other_door (Approved k consent ∷ trail) g h value none other = other_door trail g h value none other
other_door (Issued t ∷ trail) g h value none other = other_door trail g h value none other
other_door (Pended r ∷ trail) g h value none other = other_door trail g h value none other
other_door (DecidedAs d ∷ trail) g h value none other = other_door trail g h value none other
other_door (Finalized k ∷ trail) g h value none other = other_door trail g h value none other
other_door (Wrong k ∷ trail) g h value none other = other_door trail g h value none other
other_door (Retired s why ∷ trail) g h value none other = other_door trail g h value none other

pub none-reverse : (p : Note → Bool) (notes : List Note) → list_any p notes ≡ false → list_any p (reverse notes) ≡ false
none-reverse p [] none = refl
none-reverse p (x ∷ xs) none =
    let parts = or_parts (p x) (list_any p xs) none in
    let rest = none-reverse p xs parts.1 in
    rw (reverse-append (x ∷ []) xs, list_any-append p (reverse xs) (x ∷ []), rest, parts.0) refl

-- Where no grant but one had the value, it is no other grant's.
pub door_of_another : (notes : List Note) (g h : ℕ) (value : Text) → list_any (is_held_by_other g value) notes ≡ false → (h == g) ≡ false
    → is_door_of (reverse notes) h value ≡ false
door_of_another notes g h value none other = other_door (reverse notes) g h value (none-reverse (is_held_by_other g value) notes none) other
