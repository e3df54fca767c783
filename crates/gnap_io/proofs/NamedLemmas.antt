-- Where the first thing under a name is.
use Rattle.std.proofs.Common.{◌≡◌, ◌∙◌, ℕ, suc, ◌+◌, ◌<◌, List, [], ◌∷◌, ◌++◌, length, get_or, take, drop, refl, ap, sym, subst, append_assoc, add-one}
use Rattle.std.specs.Prelude.{Option, Some, None, Bool, true, false, if◌then◌else◌}
use Rattle.std.specs.Str.{bytes_eq}
use Rattle.std.proofs.Math.Seq.{drop-cons, take-suc, drop-length}
use Rattle.std.proofs.lemmas.Option.{slice_get-get_or}
use Rattle.gnap_io.specs.Named.{found_under, without, IsPlace}

module _ {T : Type 0} where
  -- none of the first has the name
  pub record Passed (named : List (List ℕ × T)) (name : List ℕ) (i : ℕ) : Type 0 where
    pub found : found_under named name ≡ found_under (drop i named) name
    pub rest : without named name ≡ take i named ++ without (drop i named) name

  pub passed-start : (named : List (List ℕ × T)) (name : List ℕ) → Passed named name 0
  passed-start named name = record { found = refl; rest = refl }

  found-other : (b : Bool) (x y : Option T) → b ≡ false → (if b then x else y) ≡ y
  found-other b x y is = ap (λ c. if c then x else y) is

  -- what is left of a list at a place within it
  at_place : (named : List (List ℕ × T)) (i : ℕ) (x : List ℕ × T) → i < length named → x ≡ get_or named i x → drop i named ≡ x ∷ drop (suc i) named
  at_place named i x within is = drop-cons named i x within ∙ ap (λ y. y ∷ drop (suc i) named) (sym is)

  pub passed-next : (named : List (List ℕ × T)) (name : List ℕ) (i : ℕ) (x : List ℕ × T) → i < length named → x ≡ get_or named i x
      → bytes_eq x.0 name ≡ false → Passed named name i → Passed named name (i + 1)
  passed-next named name i x within is other passed =
      let rest = at_place named i x within is in
      let next : Passed named name (suc i) = record {
        found = passed.found ∙ ap (λ xs. found_under xs name) rest ∙ found-other (bytes_eq x.0 name) (Some x.1) (found_under (drop (suc i) named) name) other;
        rest = passed.rest ∙ ap (λ xs. take i named ++ without xs name) rest
            ∙ ap (λ (c : Bool). take i named ++ (if c then drop (suc i) named else x ∷ without (drop (suc i) named) name)) other
            ∙ sym (append_assoc (take i named) (x ∷ []) (without (drop (suc i) named) name))
            ∙ ap (λ y. (take i named ++ y ∷ []) ++ without (drop (suc i) named) name) is
            ∙ ap (λ xs. xs ++ without (drop (suc i) named) name) (sym (take-suc named i x within));
      } in
      subst (Passed named name) (sym (add-one i)) next

  pub passed-here : (named : List (List ℕ × T)) (name : List ℕ) (i : ℕ) (x : List ℕ × T) → i < length named → x ≡ get_or named i x
      → bytes_eq x.0 name ≡ true → Passed named name i → IsPlace named name i
  passed-here named name i x within is same passed =
      let rest = at_place named i x within is in
      let found : found_under named name ≡ Some x.1 = passed.found ∙ ap (λ xs. found_under xs name) rest
      ∙ ap (λ (c : Bool). if c then Some x.1 else found_under (drop (suc i) named) name) same in
      record {
        within = within;
        found = λ one there.
            let it : Some x ≡ Some one = ap Some is ∙ sym (slice_get-get_or named i x within) ∙ there in
            let both : x ≡ one = cc in
            found ∙ ap (λ (y : List ℕ × T). Some y.1) both;
        rest = passed.rest ∙ ap (λ xs. take i named ++ without xs name) rest
            ∙ ap (λ (c : Bool). take i named ++ (if c then drop (suc i) named else x ∷ without (drop (suc i) named) name)) same;
      }

  pub passed-all : (named : List (List ℕ × T)) (name : List ℕ) → Passed named name (length named) → found_under named name ≡ None
  passed-all named name passed = passed.found ∙ ap (λ xs. found_under xs name) (drop-length named)

  -- what is at that place
  pub place-found : (named : List (List ℕ × T)) (name : List ℕ) (i : ℕ) (x : List ℕ × T) → IsPlace named name i → x ≡ get_or named i x
      → found_under named name ≡ Some x.1
  place-found named name i x place is = place.found x (slice_get-get_or named i x place.within ∙ ap Some (sym is))
