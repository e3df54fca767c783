-- A name's place among entries: in the list, in a front of it and behind that, and as notes tell it there.
use Rattle.std.proofs.Common.{◌≡◌, ℕ, zero, suc, ◌+◌, ◌<◌, ◌≤◌, Bool, true, false, cond, List, [], ◌∷◌, ◌++◌, length, get_or, take, drop, slice_get, Option, Some, None, refl, sym, ap, subst, ◌∙◌, arith, length-append}
use Rattle.std.specs.Prelude.{slice_set, IfSome, IsSome}
use Rattle.std.specs.Str.{bytes_eq}
use Rattle.std.specs.Option.{option_map}
use Rattle.std.proofs.lemmas.List.{drop_more, take_more}
use Rattle.std.proofs.lemmas.Slice.Eq.{bytes_eq-Decides}
use Rattle.structured_fields.specs.Named.{value_at, with_value, place_of, few, Covers, IsDistinct}
use Rattle.structured_fields.specs.NameNotes.{noted, Extends}
use Rattle.structured_fields.proofs.Entries.{goes_last, turned, apart_at}
use Rattle.structured_fields.proofs.NameNotes.{absent_before}

same : (a b : List ℕ) → bytes_eq a b ≡ true → a ≡ b
same a b = (bytes_eq-Decides a b).0

-- a name of which no note is taken isn't one of which a note is
noted_apart : (notes : List ℕ) (name q : List ℕ) → IsSome (noted notes name) → noted notes q ≡ None → bytes_eq q name ≡ false
noted_apart notes name q there none = by (bytes_eq q name) refl
  where
    told : (o : Option ℕ) → IsSome o → o ≡ None → ⊥
    told None some e = absurd cc
    told (Some n) some e = absurd cc

    by : (b : Bool) → bytes_eq q name ≡ b → b ≡ false
    by true t = absurd (told (noted notes name) there (ap (noted notes) (sym (same q name t)) ∙ none))
    by false t = refl

module _ {V : Type 0} where
  -- ---- what stands at the place

  abbrev at_place : List (List ℕ × V) → Option ℕ → Option V
  at_place es None = None
  at_place es (Some i) = option_map (λ e. e.1) (slice_get es i)

  pub value_there : (es : List (List ℕ × V)) (name : List ℕ) → value_at es name ≡ at_place es (place_of es name)
  value_there [] name = refl
  value_there (e ∷ es) name = by (bytes_eq name e.0) (place_of es name) (value_there es name)
    where
      by : (b : Bool) (o : Option ℕ) → value_at es name ≡ at_place es o
          → cond b (Some e.1) (value_at es name) ≡ at_place (e ∷ es) (cond b (Some 0) (option_map suc o))
      by true o r = refl
      by false None r = r
      by false (Some i) r = r

  pub place_within : (es : List (List ℕ × V)) (name : List ℕ) (i : ℕ) → place_of es name ≡ Some i → i < length es
  place_within [] name i e = absurd cc
  place_within (x ∷ es) name i e = by (bytes_eq name x.0) (place_of es name) (place_within es name) e
    where
      by : (b : Bool) (o : Option ℕ) → ((j : ℕ) → o ≡ Some j → j < length es) → cond b (Some 0) (option_map suc o) ≡ Some i → i < length (x ∷ es)
      by true o within e = let zero_is : 0 ≡ i = cc in omega arith
      by false None within e = absurd cc
      by false (Some j) within e = let next : suc j ≡ i = cc in let short = within j refl in omega arith

  pub within_all : (es : List (List ℕ × V)) (name : List ℕ) (o : Option ℕ) → o ≡ place_of es name → IfSome o (λ i. i < length es)
  within_all es name None e = tt
  within_all es name (Some i) e = place_within es name i (sym e)

  module _ (es : List (List ℕ × V)) (name : List ℕ) where
    pub found_value : (place : ℕ) → Some place ≡ place_of es name → (v : V) (n : List ℕ) → slice_get es place ≡ Some (n, v) → Some v ≡ value_at es name
    found_value place found v n at = sym (value_there es name ∙ ap (at_place es) (sym found) ∙ ap (option_map (λ (e : List ℕ × V). e.1)) at)

    pub found_none : None ≡ place_of es name → None ≡ value_at es name
    found_none none = sym (value_there es name ∙ ap (at_place es) (sym none))

  -- ---- in a front and behind it

  -- a name that the front hasn't stands behind it
  pub behind_front : (n : ℕ) (es : List (List ℕ × V)) (name : List ℕ) → place_of (take n es) name ≡ None
      → place_of es name ≡ option_map (λ i. n + i) (place_of (drop n es) name)
  behind_front zero es name e = by (place_of es name)
    where
      by : (o : Option ℕ) → o ≡ option_map (λ i. 0 + i) o
      by None = refl
      by (Some i) = let k : i ≡ 0 + i = omega arith in ap Some k
  behind_front (suc n) [] name e = refl
  behind_front (suc n) (x ∷ es) name e = by (bytes_eq name x.0) (place_of (take n es) name) (behind_front n es name) e
    where
      next : (o : Option ℕ) → option_map suc (option_map (λ i. n + i) o) ≡ option_map (λ i. suc n + i) o
      next None = refl
      next (Some i) = let k : suc (n + i) ≡ suc n + i = omega arith in ap Some k

      by : (b : Bool) (o : Option ℕ) → (o ≡ None → place_of es name ≡ option_map (λ i. n + i) (place_of (drop n es) name))
          → cond b (Some 0) (option_map suc o) ≡ None
          → cond b (Some 0) (option_map suc (place_of es name)) ≡ option_map (λ i. suc n + i) (place_of (drop n es) name)
      by true o there h = absurd cc
      by false None there h = ap (option_map suc) (there refl) ∙ next (place_of (drop n es) name)
      by false (Some j) there h = absurd cc

  -- of distinct names each stands where it is found
  pub stands_there : (es : List (List ℕ × V)) (i : ℕ) (name : List ℕ) (v : V) → IsDistinct es → slice_get es i ≡ Some (name, v) → place_of es name ≡ Some i
  stands_there [] i name v d e = absurd cc
  stands_there (x ∷ es) zero name v d e =
      let is : x ≡ (name, v) = cc in
      let own : bytes_eq name x.0 ≡ true = (bytes_eq-Decides name x.0).1 (sym (ap (λ (y : List ℕ × V). y.0) is)) in
      rw own refl
  stands_there (x ∷ es) (suc i) name v d e =
      rw (turned x.0 name (apart_at es x.0 d.0 i name v e)) (ap (option_map suc) (stands_there es i name v d.1 e))

  pub stands_under : (es : List (List ℕ × V)) (i : ℕ) (name other : List ℕ) (v : V) → IsDistinct es → slice_get es i ≡ Some (other, v)
      → bytes_eq other name ≡ true → place_of es name ≡ Some i
  stands_under es i name other v d e t = ap (place_of es) (sym (same other name t)) ∙ stands_there es i other v d e

  absent_still : (es : List (List ℕ × V)) (name : List ℕ) (p : List ℕ × V) → place_of es name ≡ None → bytes_eq name p.0 ≡ false
      → place_of (es ++ p ∷ []) name ≡ None
  absent_still [] name p none apart = rw apart refl
  absent_still (x ∷ es) name p none apart = by (bytes_eq name x.0) (place_of es name) none (λ e. absent_still es name p e apart)
    where
      by : (b : Bool) (o : Option ℕ) → cond b (Some 0) (option_map suc o) ≡ None → (o ≡ None → place_of (es ++ p ∷ []) name ≡ None)
          → cond b (Some 0) (option_map suc (place_of (es ++ p ∷ []) name)) ≡ None
      by true o h there = absurd cc
      by false None h there = ap (option_map suc) (there refl)
      by false (Some j) h there = absurd cc

  module _ (es : List (List ℕ × V)) (name : List ℕ) (i : ℕ) (p : List ℕ × V) (within : i < length es) (none : place_of (take i es) name ≡ None)
      (is : p ≡ get_or es i p) where
    -- the first entry with the name
    pub stands_at : true ≡ bytes_eq name p.0 → Some i ≡ place_of es name
    stands_at eq =
        let first : place_of (drop i es) name
        ≡ place_of (p ∷ drop (i + 1) es) name = ap (λ (l : List (List ℕ × V)). place_of l name)
        (drop_more es i p within ∙ ap (λ (y : List ℕ × V). y ∷ drop (i + 1) es) (sym is)) in
        let here : place_of (p ∷ drop (i + 1) es) name ≡ Some 0 = rw (sym eq) refl in
        let k : i + 0 ≡ i = omega arith in
        sym (behind_front i es name none ∙ ap (option_map (λ j. i + j)) (first ∙ here) ∙ ap Some k)

    -- the name isn't that of this entry either
    pub not_yet : false ≡ bytes_eq name p.0 → place_of (take (i + 1) es) name ≡ None
    not_yet apart = ap (λ (l : List (List ℕ × V)). place_of l name) (take_more es i p within ∙ ap (λ (y : List ℕ × V). take i es ++ y ∷ []) (sym is))
        ∙ absent_still (take i es) name p none (sym apart)

  -- ---- a value that is set where the name is there

  pub written : (es : List (List ℕ × V)) (name : List ℕ) (v : V) (i : ℕ) (p : List ℕ × V) → place_of es name ≡ Some i → p ≡ get_or es i p
      → slice_set es i (p.0, v) ≡ with_value es name v
  written [] name v i p = λ e is. absurd cc
  written (x ∷ es) name v i p = by (bytes_eq name x.0) (place_of es name) (λ j. written es name v j p)
    where
      by : (b : Bool) (o : Option ℕ) → ((j : ℕ) → o ≡ Some j → p ≡ get_or es j p → slice_set es j (p.0, v) ≡ with_value es name v)
          → cond b (Some 0) (option_map suc o) ≡ Some i → p ≡ get_or (x ∷ es) i p
          → slice_set (x ∷ es) i (p.0, v) ≡ cond b ((x.0, v) ∷ es) (x ∷ with_value es name v)
      by true o there h =
          let zero_is : 0 ≡ i = cc in
          subst (λ (k : ℕ). p ≡ get_or (x ∷ es) k p → slice_set (x ∷ es) k (p.0, v) ≡ (x.0, v) ∷ es) zero_is (λ is. ap (λ (y : List ℕ × V). (y.0, v) ∷ es) is)
      by false None there h = λ is. absurd cc
      by false (Some j) there h =
          let next : suc j ≡ i = cc in
          subst (λ (k : ℕ). p ≡ get_or (x ∷ es) k p → slice_set (x ∷ es) k (p.0, v) ≡ x ∷ with_value es name v) next
          (λ is. ap (λ (r : List (List ℕ × V)). x ∷ r) (there j refl is))

  -- each name keeps its place, and no entry is added
  place_stays : (es : List (List ℕ × V)) (name : List ℕ) (v : V) (i : ℕ) → place_of es name ≡ Some i → (q : List ℕ)
      → place_of (with_value es name v) q ≡ place_of es q
  place_stays [] name v i e q = absurd cc
  place_stays (x ∷ es) name v i e q = by (bytes_eq name x.0) (place_of es name) (λ j there. place_stays es name v j there q) e
    where
      by : (b : Bool) (o : Option ℕ) → ((j : ℕ) → o ≡ Some j → place_of (with_value es name v) q ≡ place_of es q) → cond b (Some 0) (option_map suc o) ≡ Some i
          → place_of (cond b ((x.0, v) ∷ es) (x ∷ with_value es name v)) q ≡ place_of (x ∷ es) q
      by true o there h = refl
      by false None there h = absurd cc
      by false (Some j) there h = ap (λ (o : Option ℕ). cond (bytes_eq q x.0) (Some 0) (option_map suc o)) (there j refl)

  length_stays : (es : List (List ℕ × V)) (name : List ℕ) (v : V) (i : ℕ) → place_of es name ≡ Some i → length (with_value es name v) ≡ length es
  length_stays [] name v i e = absurd cc
  length_stays (x ∷ es) name v i e = by (bytes_eq name x.0) (place_of es name) (λ j there. length_stays es name v j there) e
    where
      by : (b : Bool) (o : Option ℕ) → ((j : ℕ) → o ≡ Some j → length (with_value es name v) ≡ length es) → cond b (Some 0) (option_map suc o) ≡ Some i
          → length (cond b ((x.0, v) ∷ es) (x ∷ with_value es name v)) ≡ length (x ∷ es)
      by true o there h = refl
      by false None there h = absurd cc
      by false (Some j) there h = ap suc (there j refl)

  pub covers_set : (notes : List ℕ) (es : List (List ℕ × V)) (name : List ℕ) (v : V) (i : ℕ) → place_of es name ≡ Some i → Covers notes es
      → Covers notes (with_value es name v)
  covers_set notes es name v i there covers many q none =
      let more : few < length es = subst (λ (n : ℕ). few < n) (length_stays es name v i there) many in
      place_stays es name v i there q ∙ covers more q none

  pub covers_more : (notes more : List ℕ) (es : List (List ℕ × V)) → Extends notes more → Covers notes es → Covers more es
  covers_more notes more es extends covers many q none = covers many q (absent_before notes more extends q none)

  -- ---- a new name that is put last

  -- the names up to an entry are noted, and then its own too
  pub all_more : (notes more : List ℕ) (es : List (List ℕ × V)) (i : ℕ) (p : List ℕ × V) → i < length es → p ≡ get_or es i p → Extends notes more
      → IsSome (noted more p.0)
      → ((q : List ℕ) → noted notes q ≡ None → place_of (take i es) q ≡ None) → (q : List ℕ) → noted more q ≡ None → place_of (take (i + 1) es) q ≡ None
  all_more notes more es i p within is extends there all q none =
      not_yet es q i p within (all q (absent_before notes more extends q none)) is (sym (noted_apart more p.0 q there none))

  module _ (es : List (List ℕ × V)) (name : List ℕ) (v : V) (new : place_of es name ≡ None) where
    -- it goes last
    pub put_last : es ++ (name, v) ∷ [] ≡ with_value es name v
    put_last = sym (goes_last es name v (value_there es name ∙ ap (at_place es) new))

    -- a few and the new one, once all are noted
    pub covers_added : (more : List ℕ) → (few ≤ length es → (q : List ℕ) → noted more q ≡ None → place_of es q ≡ None)
        → (few ≤ length es → IsSome (noted more name)) → Covers more (es ++ (name, v) ∷ [])
    covers_added more all there many q none =
        let enough : few ≤ length es = omega (arith, many, length-append es ((name, v) ∷ [])) in
        absent_still es q (name, v) (all enough q none) (noted_apart more name q (there enough) none)
