-- A continuation value is used once.
use Rattle.std.proofs.Common.{ℕ, ◌≡◌, ◌⊎◌, Bool, true, false, List, [], ◌∷◌, ◌++◌, reverse, refl, sym, ◌∙◌, ap, subst, inl, inr, append_assoc, Option, Some, None}
use Rattle.std.specs.Option.{option_or}
use Rattle.std.specs.Prelude.{◌&&◌, not}
use Rattle.std.specs.List.{list_any}
use Rattle.std.proofs.lemmas.Bool.{or_left, or_right}
use Rattle.std.proofs.lemmas.List.Folds.{list_any-append}
use Rattle.gnap_model.proofs.LookUps.{first_of-append, option_or_cases}
use Rattle.gnap_model.specs.Common.{Text, Has, AreDistinct, first_of, some_if}
use Rattle.gnap_laws.specs.Types.{OpeningNote, Note}
use Rattle.gnap_model.specs.Notes.{note_values, trail_values}
use Rattle.gnap_model.specs.declared.notes.Note.TheVariants.{Opened, Door}
use Rattle.gnap_model.specs.Standing.{door, door_in, is_end_of, is_door_of, named_in, named_grant, grant_state, is_finalized}
use Rattle.gnap_model.proofs.TrailNotes.{HasNote, door_noted, is_text_is}

-- ---- lists

pub Has-append_right : (xs ys : List Text) (v : Text) → Has ys v → Has (xs ++ ys) v
Has-append_right [] ys v h = h
Has-append_right (x ∷ xs) ys v h = inr (Has-append_right xs ys v h)

pub Has-append_left : (xs ys : List Text) (v : Text) → Has xs v → Has (xs ++ ys) v
Has-append_left [] ys v h = absurd h
Has-append_left (x ∷ xs) ys v (inl e) = inl e
Has-append_left (x ∷ xs) ys v (inr h) = inr (Has-append_left xs ys v h)

pub distinct_apart : (xs ys : List Text) (v : Text) → AreDistinct (xs ++ ys) → Has xs v → Has ys v → ⊥
distinct_apart [] ys v d hx hy = hx
distinct_apart (x ∷ xs) ys v d (inl e) hy = d.0 (subst (Has (xs ++ ys)) e (Has-append_right xs ys v hy))
distinct_apart (x ∷ xs) ys v d (inr hx) hy = distinct_apart xs ys v d.1 hx hy

pub distinct_right : (xs ys : List Text) → AreDistinct (xs ++ ys) → AreDistinct ys
distinct_right [] ys d = d
distinct_right (x ∷ xs) ys d = distinct_right xs ys d.1

-- ---- look-ups

pub trail-append : (xs ys : List Note) → trail_values (xs ++ ys) ≡ trail_values xs ++ trail_values ys
trail-append [] ys = refl
trail-append (x ∷ xs) ys = ap (λ (r : List Text). reverse (note_values x) ++ r) (trail-append xs ys)
    ∙ sym (append_assoc (reverse (note_values x)) (trail_values xs) (trail_values ys))

-- ---- values of notes

pub note_has : (ns : List Note) (n : Note) (x : Text) → HasNote ns n → Has (reverse (note_values n)) x → Has (trail_values ns) x
note_has [] n x h v = absurd h
note_has (k ∷ ns) n x (inl e) v = Has-append_left (reverse (note_values k)) (trail_values ns) x (subst (λ (m : Note). Has (reverse (note_values m)) x) e v)
note_has (k ∷ ns) n x (inr h) v = Has-append_right (reverse (note_values k)) (trail_values ns) x (note_has ns n x h v)

-- a value is that of one note
pub note_one : (ns : List Note) (m n : Note) (x : Text) → AreDistinct (trail_values ns) → HasNote ns m → HasNote ns n → Has (reverse (note_values m)) x
    → Has (reverse (note_values n)) x → m ≡ n
note_one [] m n x d hm hn vm vn = absurd hm
note_one (k ∷ ns) m n x d (inl a) (inl b) vm vn = a ∙ sym b
note_one (k ∷ ns) m n x d (inl a) (inr b) vm vn =
    absurd (distinct_apart (reverse (note_values k)) (trail_values ns) x d (subst (λ (y : Note). Has (reverse (note_values y)) x) a vm) (note_has ns n x b vn))
note_one (k ∷ ns) m n x d (inr a) (inl b) vm vn =
    absurd (distinct_apart (reverse (note_values k)) (trail_values ns) x d (subst (λ (y : Note). Has (reverse (note_values y)) x) b vn) (note_has ns m x a vm))
note_one (k ∷ ns) m n x d (inr a) (inr b) vm vn = note_one ns m n x (distinct_right (reverse (note_values k)) (trail_values ns) d) a b vm vn

pub doors_have : (g : ℕ) (v : Text) (ns : List Note) → first_of (door_in g) ns ≡ Some v → Has (trail_values ns) v
doors_have g v ns d = let n = door_noted ns g v d in note_has ns (Door g v n.0) v n.1 (inl refl)

-- a value is the door of one grant at most
pub door_one : (ns : List Note) (g h : ℕ) (v : Text) → AreDistinct (trail_values ns) → door ns g ≡ Some v → door ns h ≡ Some v → g ≡ h
door_one ns g h v d dg dh =
    let one = door_noted ns g v dg in
    let other = door_noted ns h v dh in
    let same : Door g v one.0 ≡ Door h v other.0 = note_one ns (Door g v one.0) (Door h v other.0) v d one.1 other.1 (inl refl) (inl refl) in cc same

-- ---- a value that is spent: it was drawn, and the grant whose door it still is was finalized by a note

pub record IsSpent (trail : List Note) (v : Text) : Type 0 where
  pub drawn : Has (trail_values trail) v
  pub ended : (g : ℕ) → door trail g ≡ Some v → list_any (is_end_of g) trail ≡ true

pub spent_more : (new trail : List Note) (v : Text) → AreDistinct (trail_values (new ++ trail)) → IsSpent trail v → IsSpent (new ++ trail) v
spent_more new trail v d h = record {
  drawn = subst (λ (x : List Text). Has x v) (sym (trail-append new trail)) (Has-append_right (trail_values new) (trail_values trail) v h.drawn);
  ended = λ g e. at g (option_or_cases (first_of (door_in g) new) (door trail g) v (sym (first_of-append (door_in g) new trail) ∙ e));
}
  where
    at : (g : ℕ) → (first_of (door_in g) new ≡ Some v) ⊎ ((first_of (door_in g) new ≡ None) × (door trail g ≡ Some v))
        → list_any (is_end_of g) (new ++ trail) ≡ true
    at g (inl e) = absurd (distinct_apart (trail_values new) (trail_values trail) v (subst AreDistinct (trail-append new trail) d) (doors_have g v new e)
        h.drawn)
    at g (inr e) = list_any-append (is_end_of g) new trail ∙ or_right (list_any (is_end_of g) new) (list_any (is_end_of g) trail) (h.ended g e.1)

-- the door of o is spent by notes that have a new door of o, or that end it
pub spent_now : (new trail : List Note) (o : ℕ) (v : Text) → AreDistinct (trail_values (new ++ trail)) → door trail o ≡ Some v
    → ((w : Text) × (first_of (door_in o) new ≡ Some w)) ⊎ (list_any (is_end_of o) new ≡ true) → IsSpent (new ++ trail) v
spent_now new trail o v d e used = record {
  drawn = subst (λ (x : List Text). Has x v) (sym (trail-append new trail)) (Has-append_right (trail_values new) (trail_values trail) v has);
  ended = λ g eg. at g (option_or_cases (first_of (door_in g) new) (door trail g) v (sym (first_of-append (door_in g) new trail) ∙ eg)) used;
}
  where
    has : Has (trail_values trail) v
    has = doors_have o v trail e

    apart : AreDistinct (trail_values new ++ trail_values trail)
    apart = subst AreDistinct (trail-append new trail) d

    at : (g : ℕ) → (first_of (door_in g) new ≡ Some v) ⊎ ((first_of (door_in g) new ≡ None) × (door trail g ≡ Some v))
        → ((w : Text) × (first_of (door_in o) new ≡ Some w)) ⊎ (list_any (is_end_of o) new ≡ true) → list_any (is_end_of g) (new ++ trail) ≡ true
    at g (inl eg) u = absurd (distinct_apart (trail_values new) (trail_values trail) v apart (doors_have g v new eg) has)
    at g (inr eg) (inl w) =
        let same : g ≡ o = door_one trail g o v (distinct_right (trail_values new) (trail_values trail) apart) eg.1 e in
        let none : first_of (door_in o) new ≡ None = subst (λ (k : ℕ). first_of (door_in k) new ≡ None) same eg.0 in
        cc (none, w.1)
    at g (inr eg) (inr ended) =
        let same : g ≡ o = door_one trail g o v (distinct_right (trail_values new) (trail_values trail) apart) eg.1 e in
        list_any-append (is_end_of g) new trail
        ∙ or_left (list_any (is_end_of g) new) (list_any (is_end_of g) trail) (subst (λ (k : ℕ). list_any (is_end_of k) new ≡ true) (sym same) ended)

-- ---- a spent value names no grant

first_of_none : {A B : Type 0} (look : A → Option B) (xs : List A) → ((x : A) → look x ≡ None) → first_of look xs ≡ None
first_of_none look [] h = refl
first_of_none look (x ∷ xs) h = ap (λ r. option_or r (first_of look xs)) (h x) ∙ first_of_none look xs h

ended_state : (trail : List Note) (g now : ℕ) → list_any (is_end_of g) trail ≡ true → is_finalized (grant_state trail g now) ≡ true
ended_state trail g now e = rw e refl

not_named : (trail : List Note) (now : ℕ) (v : Text) (p : OpeningNote) (b : Bool) → is_door_of trail p.grant v ≡ b → IsSpent trail v
    → some_if (b && not (is_finalized (grant_state trail p.grant now))) p ≡ None
not_named trail now v p false e h = refl
not_named trail now v p true e h = rw (ended_state trail p.grant now (h.ended p.grant (is_text_is v (door trail p.grant) e))) refl

pub spent_names_none : (trail : List Note) (now : ℕ) (v : Text) → IsSpent trail v → named_grant trail now v ≡ None
spent_names_none trail now v h = first_of_none (named_in trail now v) trail at
  where
    at : (n : Note) → named_in trail now v n ≡ None
    at (Opened p) = not_named trail now v p (is_door_of trail p.grant v) refl h
    at _ = refl
