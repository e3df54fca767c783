-- Where keys are found by their ids: the places that a tree notes, and what stands at them.
use Rattle.std.proofs.Common.{◌≡◌, ◌∙◌, ℕ, zero, suc, ◌+◌, ◌<◌, Bool, true, false, true≢false, cond, List, [], ◌∷◌, length, take, slice_get, Option, Some, None, refl, sym, ap, arith}
use Rattle.std.specs.Option.{option_map, option_and_then, option_or, unwrap_or}
use Rattle.std.specs.Global.{Vec}
use Rattle.std.specs.Ordering.{is_eq, nat_cmp, eq_by_cmp}
use Rattle.std.specs.Cmp.{eq_by_cmp_equiv}
use Rattle.std.specs.Cmp.Lexicographic.{slice_cmp, nat_list_cmp_total}
use Rattle.std.specs.Map.{lookup, IsKeyTest, AreApart, KeepsOthers}
use Rattle.std.specs.BTreeMap.{BTreeMap, is_at, UpdatesBy, get_by}
use Rattle.std.proofs.lemmas.Slice.Eq.{bytes_eq-Decides}
use Rattle.std.proofs.lemmas.Map.Text.{is_eq-slice_cmp}
use Rattle.gnap_model.specs.Common.{Text, same_text, first_of, some_if}
use Rattle.gnap_model.specs.declared.objects.KeyRow.{KeyRow}
use Rattle.gnap_model.specs.KeyPlaces.{place_of, place_in, Finds}

same_is : (a b : Text) → same_text a b ≡ true → a ≡ b
same_is a b = (bytes_eq-Decides a b).0

-- ---- in the list

-- one key more
pub place_more : (rows : List KeyRow) (i : ℕ) (row : KeyRow) (q : Text) → slice_get rows i ≡ Some row
    → place_of (take (suc i) rows) q ≡ cond (same_text row.id q) (Some (unwrap_or (place_of (take i rows) row.id) i)) (place_of (take i rows) q)
place_more [] i row q at = absurd cc
place_more (x ∷ rows) zero row q at = let is : x ≡ row = cc in rw is refl
place_more (x ∷ rows) (suc i) row q at = rw (place_more rows i row q at) (by (same_text x.id q) (same_text row.id q) refl refl)
  where
    before : Option ℕ
    before = place_of (take i rows) row.id

    next : (o : Option ℕ) → Some (suc (unwrap_or o i)) ≡ Some (unwrap_or (option_map suc o) (suc i))
    next None = refl
    next (Some n) = refl

    at_row : (b : Bool) → same_text x.id row.id ≡ b → same_text x.id q ≡ b → same_text row.id q ≡ true
        → cond b (Some 0) (Some (suc (unwrap_or before i))) ≡ Some (unwrap_or (cond (same_text x.id row.id) (Some 0) (option_map suc before)) (suc i))
    at_row true b c d = rw b refl
    at_row false b c d = rw b (next before)

    by : (c d : Bool) → same_text x.id q ≡ c → same_text row.id q ≡ d
        → cond c (Some 0) (option_map suc (cond d (Some (unwrap_or before i)) (place_of (take i rows) q)))
        ≡ cond d (Some (unwrap_or (cond (same_text x.id row.id) (Some 0) (option_map suc before)) (suc i)))
        (cond c (Some 0) (option_map suc (place_of (take i rows) q)))
    by true true c d = at_row true (ap (same_text x.id) (same_is row.id q d) ∙ c) c d
    by false true c d = at_row false (ap (same_text x.id) (same_is row.id q d) ∙ c) c d
    by true false c d = refl
    by false false c d = refl

-- where one key more is noted
pub one_more : (rows : List KeyRow) (i : ℕ) (row : KeyRow) (key : Text) (old new : BTreeMap (Vec ℕ) ℕ) → key ≡ row.id → slice_get rows i ≡ Some row
    → ((q : Text) → place_in old q ≡ place_of (take i rows) q)
    → ((q : Text) → place_in new q ≡ cond (same_text key q) (Some (unwrap_or (place_in old key) i)) (place_in old q))
    → (q : Text) → place_in new q ≡ place_of (take (i + 1) rows) q
one_more rows i row key old new same at before after q =
    after q
    ∙ ap (λ (k : Text). cond (same_text k q) (Some (unwrap_or (place_in old k) i)) (place_in old q)) same
    ∙ ap (λ (o : Option ℕ). cond (same_text row.id q) (Some (unwrap_or o i)) (place_in old q)) (before row.id)
    ∙ ap (cond (same_text row.id q) (Some (unwrap_or (place_of (take i rows) row.id) i))) (before q)
    ∙ sym (place_more rows i row q at)
    ∙ ap (λ (n : ℕ). place_of (take n rows) q) (let next : suc i ≡ i + 1 = omega arith in next)

pub place_within : (rows : List KeyRow) (id : Text) (i : ℕ) → place_of rows id ≡ Some i → i < length rows
place_within [] id i at = absurd cc
place_within (x ∷ rows) id i at = by (same_text x.id id) (place_of rows id) (place_within rows id) at
  where
    by : (b : Bool) (o : Option ℕ) → ((j : ℕ) → o ≡ Some j → j < length rows) → cond b (Some 0) (option_map suc o) ≡ Some i → i < length (x ∷ rows)
    by true o within at = let zero_is : 0 ≡ i = cc in omega arith
    by false None within at = absurd cc
    by false (Some j) within at = let next : suc j ≡ i = cc in let short = within j refl in omega arith

-- the first key with an id is what stands at its place
pub first_at_place : (rows : List KeyRow) (id : Text)
    → first_of (λ row. some_if (same_text row.id id) row) rows ≡ option_and_then (slice_get rows) (place_of rows id)
first_at_place [] id = refl
first_at_place (x ∷ rows) id = by (same_text x.id id) (place_of rows id) (first_at_place rows id)
  where
    rest : Option KeyRow
    rest = first_of (λ row. some_if (same_text row.id id) row) rows

    by : (b : Bool) (o : Option ℕ) → rest ≡ option_and_then (slice_get rows) o
        → option_or (some_if b x) rest ≡ option_and_then (slice_get (x ∷ rows)) (cond b (Some 0) (option_map suc o))
    by true o r = refl
    by false None r = r
    by false (Some i) r = r

-- ---- in the tree

module _ {X : Type 0} where
  others : (eq : Vec ℕ → Vec ℕ → Bool) (test : Vec ℕ → Bool) (old new : List (Vec ℕ × X)) → KeepsOthers eq test old new
      → (other : Vec ℕ → Bool) → IsKeyTest eq other → AreApart test other → lookup other new ≡ lookup other old
  unfolding KeepsOthers
  others eq test old new keeps = keeps

  -- a text that takes a value
  pub updated : (old new : BTreeMap (Vec ℕ) X) (text : Text) (value : Option X)
      → UpdatesBy (λ a b. slice_cmp nat_cmp a.items b.items) (λ key. slice_cmp nat_cmp text key.items) old new value
      → (q : Text) → get_by (λ key. slice_cmp nat_cmp q key.items) new ≡ cond (same_text text q) value (get_by (λ key. slice_cmp nat_cmp q key.items) old)
  updated old new text value updates q = by (same_text text q) refl
    where
      flipped : (b : Bool) → same_text text q ≡ false → same_text q text ≡ b → same_text q text ≡ false
      flipped true other t = absurd (true≢false (sym ((bytes_eq-Decides text q).1 (sym (same_is q text t))) ∙ other))
      flipped false other t = t

      apart : (key : Text) → same_text text q ≡ false → is_eq (slice_cmp nat_cmp text key) ≡ true → is_eq (slice_cmp nat_cmp q key) ≡ false
      apart key other same =
          let is : text ≡ key = same_is text key (sym (is_eq-slice_cmp text key) ∙ same) in
          is_eq-slice_cmp q key ∙ sym (ap (same_text q) is) ∙ flipped (same_text q text) other refl

      by : (b : Bool) → same_text text q ≡ b
          → get_by (λ key. slice_cmp nat_cmp q key.items) new ≡ cond b value (get_by (λ key. slice_cmp nat_cmp q key.items) old)
      by true t = sym (ap (λ (p : Text). get_by (λ key. slice_cmp nat_cmp p key.items) new) (same_is text q t)) ∙ updates.1
      by false t = others (eq_by_cmp (λ (a b : Vec ℕ). slice_cmp nat_cmp a.items b.items)) (is_at (λ (key : Vec ℕ). slice_cmp nat_cmp text key.items))
          old.entries new.entries updates.3
          (λ key. is_eq (slice_cmp nat_cmp q key.items)) (λ a b. (eq_by_cmp_equiv nat_list_cmp_total).congr q a.items b.items) (λ key. apart key.items t)

-- an id whose place wasn't noted
pub noted : (old new : BTreeMap (Vec ℕ) ℕ) (key id : Text) (place : ℕ) → key ≡ id → place_in old id ≡ None
    → UpdatesBy (λ a b. slice_cmp nat_cmp a.items b.items) (λ k. slice_cmp nat_cmp key k.items) old new (Some place)
    → (q : Text) → place_in new q ≡ cond (same_text id q) (Some (unwrap_or (place_in old id) place)) (place_in old q)
noted old new key id place same none updates q =
    updated old new key (Some place) updates q
    ∙ ap (λ (k : Text). cond (same_text k q) (Some place) (place_in old q)) same
    ∙ ap (λ (o : Option ℕ). cond (same_text id q) (Some (unwrap_or o place)) (place_in old q)) (sym none)

-- ---- what stands where a place is noted

module _ (places : BTreeMap (Vec ℕ) ℕ) (rows now : List KeyRow) (id : Text) (finds : Finds places rows) (view : rows ≡ now) where
  here : place_of now id ≡ place_in places id
  here = ap (λ (l : List KeyRow). place_of l id) (sym view) ∙ sym (finds id)

  pub found_none : None ≡ place_in places id → None ≡ first_of (λ row. some_if (same_text row.id id) row) now
  found_none none = sym (first_at_place now id ∙ ap (option_and_then (slice_get now)) (here ∙ sym none))

  pub found_within : (place : ℕ) → Some place ≡ place_in places id → place < length now
  found_within place found = place_within now id place (here ∙ sym found)

  pub found_row : (place : ℕ) (row : KeyRow) → Some place ≡ place_in places id → slice_get now place ≡ Some row
      → Some row ≡ first_of (λ row. some_if (same_text row.id id) row) now
  found_row place row found at = sym (first_at_place now id ∙ ap (option_and_then (slice_get now)) (here ∙ sym found) ∙ at)
