-- Parameters and items.
use Rattle.std.proofs.Common.{◌≡◌, ℕ, zero, suc, ◌+◌, ◌≤◌, ◌==◌, Bool, true, false, not, cond, inl, inr, List, [], ◌∷◌, ◌++◌, length, replicate, drop, Option, Some, refl, sym, ap, subst, ◌∙◌, arith, append_assoc}
use Rattle.std.specs.List.{prefix_len, list_all, list_any}
use Rattle.std.proofs.lemmas.Bool.Decides.{nat_tests}
use Rattle.std.proofs.lemmas.List.{length-append}
use Rattle.std.proofs.lemmas.Bool.{eqb-true, and_parts, not-true, not_from_false, or_cases}
use Rattle.std.proofs.lemmas.List.Folds.{length-prefix_len}
use Rattle.base64.specs.GeneralPurpose.{IsBytes}
use Rattle.structured_fields.specs.Named.{with_value}
use Rattle.structured_fields.specs.declared.bare.Bare.{Bare}
use Rattle.structured_fields.specs.declared.bare.Bare.TheVariants.{Boolean}
use Rattle.structured_fields.specs.declared.item.Item.{Item}
use Rattle.structured_fields.specs.Letters.{is_space, is_key, is_key_start, is_token_byte, is_key_byte}
use Rattle.structured_fields.specs.Grammar.{IsValue, IsParameter, ListsParameters, AreParams, IsItem}
use Rattle.structured_fields.specs.Reading.{◌>>=◌, front, behind, begins, key_at, bare_at, value_of, parameter_at, params_from, params_at, item_at}
use Rattle.structured_fields.proofs.Fronts.{bind_some, behind_again, parts, chosen, some_is, begun, ends, ends_key, stops}
use Rattle.structured_fields.proofs.Runs.{front_all}
use Rattle.structured_fields.proofs.Entries.{over}
use Rattle.structured_fields.proofs.Bares.{rest_bytes, key_takes, key_again, bare_takes, bare_text_again}

-- as many spaces as there are
pub spaces_are : (t : List ℕ) → list_all is_space t ≡ true → t ≡ replicate (length t) 32
spaces_are [] e = refl
spaces_are (c ∷ t) e =
    let b = and_parts (c == 32) (list_all is_space t) e in
    let k : c ≡ 32 = let h = b.0 in grind (arith, nat_tests, h) in
    λ i. k i ∷ spaces_are t b.1 i

pub are_spaces : (n : ℕ) → list_all is_space (replicate n 32) ≡ true
are_spaces zero = refl
are_spaces (suc n) = are_spaces n

-- the spaces in front
pub spaced : (t : List ℕ) → t ≡ replicate (prefix_len is_space t) 32 ++ behind is_space t
spaced t =
    let fronts : front is_space t ≡ replicate (prefix_len is_space t) 32 = spaces_are (front is_space t) (front_all is_space t)
    ∙ ap (λ (n : ℕ). replicate n 32) (length-prefix_len is_space t) in
    parts is_space t ∙ ap (λ (f : List ℕ). f ++ behind is_space t) fronts

-- ---- what may follow

-- a space, a tab, `,`, `)` or `;`
abbrev pub is_end : ℕ → Bool
is_end c = list_any (λ k. c == k) (32 ∷ 9 ∷ 44 ∷ 41 ∷ 59 ∷ [])

abbrev pub is_close : ℕ → Bool
is_close c = list_any (λ k. c == k) (32 ∷ 9 ∷ 44 ∷ 41 ∷ [])

abbrev pub first_is : (ℕ → Bool) → List ℕ → Bool
first_is p [] = true
first_is p (c ∷ t) = p c

pub any_holds : (q : ℕ → Bool) (c : ℕ) (ks : List ℕ) → list_any (λ k. c == k) ks ≡ true → list_all q ks ≡ true → q c ≡ true
any_holds q c [] e all = absurd cc
any_holds q c (k ∷ ks) e all =
    let b = and_parts (q k) (list_all q ks) all in
    elim (or_cases (c == k) (list_any (λ k. c == k) ks) e) [
      | inl h ↦ let same : c ≡ k = eqb-true c k h in ap q same ∙ b.0
      | inr h ↦ any_holds q c ks h b.1
    ]

pub follows_ends : (t : List ℕ) → first_is is_end t ≡ true → ends t ≡ true
follows_ends [] h = refl
follows_ends (c ∷ t) h = any_holds (λ k. not (is_token_byte k)) c (32 ∷ 9 ∷ 44 ∷ 41 ∷ 59 ∷ []) h refl

pub follows_no_value : (t : List ℕ) → first_is is_end t ≡ true → begins 61 t ≡ false
follows_no_value [] h = refl
follows_no_value (c ∷ t) h = not-true (c == 61) (any_holds (λ k. not (k == 61)) c (32 ∷ 9 ∷ 44 ∷ 41 ∷ 59 ∷ []) h refl)

pub closes_follows : (t : List ℕ) → first_is is_close t ≡ true → first_is is_end t ≡ true
closes_follows [] h = refl
closes_follows (c ∷ t) h = any_holds is_end c (32 ∷ 9 ∷ 44 ∷ 41 ∷ []) h refl

pub closes_no_parameter : (t : List ℕ) → first_is is_close t ≡ true → begins 59 t ≡ false
closes_no_parameter [] h = refl
closes_no_parameter (c ∷ t) h = not-true (c == 59) (any_holds (λ k. not (k == 59)) c (32 ∷ 9 ∷ 44 ∷ 41 ∷ []) h refl)

-- ---- values and parameters

pub record TakesValue (t : List ℕ) (x : Bare × List ℕ) : Type 0 where
  pub text : List ℕ
  pub parts : t ≡ text ++ x.1
  pub is : IsValue text x.0

value_takes : (t : List ℕ) (x : Bare × List ℕ) → IsBytes t → value_of t ≡ Some x → TakesValue t x
unfolding value_of
value_takes t x fits e =
    elim (chosen (begins 61 t) (bare_at (drop 1 t)) (Some (Boolean true, t)) (Some x) e) [
      | inl p ↦
          let whole = begun 61 t p.0 in
          let b = bare_takes (drop 1 t) x (rest_bytes (61 ∷ []) (drop 1 t) (subst IsBytes whole fits)) p.1 in
          record { text = 61 ∷ b.text; parts = whole ∙ ap (λ (r : List ℕ). 61 ∷ r) b.parts; is = (refl, b.is) }
      | inr p ↦ subst (TakesValue t) (some_is (Boolean true, t) x p.1) (record { text = []; parts = refl; is = refl })
    ]

value_again : (text rest : List ℕ) (v : Bare) → IsValue text v → first_is is_end rest ≡ true → value_of (text ++ rest) ≡ Some (v, rest)
unfolding value_of
value_again [] rest v is h = rw (follows_no_value rest h) (ap (λ (w : Bare). Some (w, rest)) (sym is))
value_again (c ∷ text) rest v is h =
    ap (λ (d : ℕ). cond (d == 61) (bare_at (text ++ rest)) (Some (Boolean true, d ∷ (text ++ rest)))) is.0
    ∙ bare_text_again text v rest is.1 (follows_ends rest h)

pub record TakesParameter (t : List ℕ) (x : (List ℕ × Bare) × List ℕ) : Type 0 where
  pub text : List ℕ
  pub parts : 59 ∷ t ≡ text ++ x.1
  pub is : IsParameter text x.0.0 x.0.1

parameter_takes : (t : List ℕ) (x : (List ℕ × Bare) × List ℕ) → IsBytes t → parameter_at t ≡ Some x → TakesParameter t x
unfolding parameter_at
parameter_takes t x fits e =
    let left = behind is_space t in
    let a = bind_some (key_at left) (λ k. value_of k.1 >>= λ v. Some ((k.0, v.0), v.1)) x e in
    let b = bind_some (value_of a.0.1) (λ v. Some ((a.0.0, v.0), v.1)) x a.2 in
    let k = key_takes left a.0 a.1 in
    let n : ℕ = prefix_len is_space t in
    let s = spaced t in
    let key_bytes = rest_bytes (replicate n 32) left (subst IsBytes s fits) in
    let v = value_takes a.0.1 b.0 (rest_bytes a.0.0 a.0.1 (subst IsBytes k.parts key_bytes)) b.1 in
    let made : (List ℕ × Bare) × List ℕ = ((a.0.0, b.0.0), b.0.1) in
    subst (TakesParameter t) (some_is made x b.2) (record {
      text = 59 ∷ replicate n 32 ++ a.0.0 ++ v.text;
      parts = ap (λ (r : List ℕ). 59 ∷ r) (s ∙ ap (λ (r : List ℕ). replicate n 32 ++ r) (k.parts ∙ ap (λ (r : List ℕ). a.0.0 ++ r) v.parts)
          ∙ sym (append_assoc (replicate n 32 ++ a.0.0) v.text b.0.1 ∙ append_assoc (replicate n 32) a.0.0 (v.text ++ b.0.1)));
      is = record { spaces = n; rest = v.text; key = k.key; is = refl; value = v.is };
    })

-- a key begins with no space
key_no_space : (name rest : List ℕ) → is_key name ≡ true → stops is_space (name ++ rest) ≡ true
key_no_space [] rest key = absurd cc
key_no_space (c ∷ name) rest key = let h = (and_parts (is_key_start c) (list_all is_key_byte name) key).0 in not_from_false (c == 32)
    (grind (arith, nat_tests, h))

-- what stands behind a key is no byte of a key
value_ends : (text rest : List ℕ) (v : Bare) → IsValue text v → first_is is_end rest ≡ true → stops is_key_byte (text ++ rest) ≡ true
value_ends [] rest v is h = ends_key rest (follows_ends rest h)
value_ends (c ∷ text) rest v is h = rw is.0 refl

parameter_again : (text name : List ℕ) (v : Bare) (rest : List ℕ) (g : IsParameter text name v) → first_is is_end rest ≡ true
    → (t : List ℕ) × (text ++ rest ≡ 59 ∷ t) × (parameter_at t ≡ Some ((name, v), rest))
unfolding parameter_at
parameter_again text name v rest g h =
    let spaces : List ℕ = replicate g.spaces 32 in
    let tail : List ℕ = name ++ (g.rest ++ rest) in
    let t : List ℕ = spaces ++ tail in
    let regrouped : text ++ rest ≡ 59 ∷ t = ap (λ (u : List ℕ). u ++ rest) g.is
    ∙ ap (λ (u : List ℕ). 59 ∷ u) (append_assoc (spaces ++ name) g.rest rest ∙ append_assoc spaces name (g.rest ++ rest)) in
    let left : behind is_space t ≡ tail = behind_again is_space spaces tail (are_spaces g.spaces) (key_no_space name (g.rest ++ rest) g.key) in
    let key : key_at (behind is_space t) ≡ Some (name, g.rest ++ rest) = ap key_at left
    ∙ key_again name (g.rest ++ rest) g.key (value_ends g.rest rest v g.value h) in
    let value : value_of (g.rest ++ rest) ≡ Some (v, rest) = value_again g.rest rest v g.value h in
    let read : parameter_at t ≡ Some ((name, v), rest) =
    ap (λ (o : Option (List ℕ × List ℕ)). o >>= λ k. value_of k.1 >>= λ w. Some ((k.0, w.0), w.1)) key
    ∙ ap (λ (o : Option (Bare × List ℕ)). o >>= λ w. Some ((name, w.0), w.1)) value in
    (t, regrouped, read)

-- ---- parameters

pub record TakesParameters (ps : List (List ℕ × Bare)) (t : List ℕ) (x : List (List ℕ × Bare) × List ℕ) : Type 0 where
  pub text : List ℕ
  pub listed : List (List ℕ × Bare)
  pub parts : t ≡ text ++ x.1
  pub are : ListsParameters text listed
  pub value : x.0 ≡ over ps listed

params_take : (n : ℕ) (ps : List (List ℕ × Bare)) (t : List ℕ) (x : List (List ℕ × Bare) × List ℕ) → IsBytes t → params_from n ps t ≡ Some x
    → TakesParameters ps t x
unfolding params_from
params_take zero ps t x fits e = subst (TakesParameters ps t) (some_is (ps, t) x e) (record { text = []; listed = []; parts = refl; are = refl; value = refl })
params_take (suc n) ps t x fits e =
    elim (chosen (begins 59 t) (parameter_at (drop 1 t) >>= λ g. params_from n (with_value ps g.0.0 g.0.1) g.1) (Some (ps, t)) (Some x) e) [
      | inl p ↦
          let whole = begun 59 t p.0 in
          let bytes = rest_bytes (59 ∷ []) (drop 1 t) (subst IsBytes whole fits) in
          let b = bind_some (parameter_at (drop 1 t)) (λ g. params_from n (with_value ps g.0.0 g.0.1) g.1) x p.1 in
          let g = parameter_takes (drop 1 t) b.0 bytes b.1 in
          let all = whole ∙ g.parts in
          let r = params_take n (with_value ps b.0.0.0 b.0.0.1) b.0.1 x (rest_bytes g.text b.0.1 (subst IsBytes all fits)) b.2 in
          record {
            text = g.text ++ r.text;
            listed = b.0.0 ∷ r.listed;
            parts = all ∙ ap (λ (u : List ℕ). g.text ++ u) r.parts ∙ sym (append_assoc g.text r.text x.1);
            are = (g.text, r.text, refl, g.is, r.are);
            value = r.value;
          }
      | inr p ↦ subst (TakesParameters ps t) (some_is (ps, t) x p.1) (record { text = []; listed = []; parts = refl; are = refl; value = refl })
    ]

-- parameters begin with `;`
parameters_follow : (gs : List (List ℕ × Bare)) (text rest : List ℕ) → ListsParameters text gs → first_is is_end rest ≡ true
    → first_is is_end (text ++ rest) ≡ true
parameters_follow [] text rest are h = rw are h
parameters_follow (g ∷ gs) text rest are h =
    let first = parameter_again are.0 g.0 g.1 rest are.3 h in
    rw (are.2, are.3.is) refl

params_again : (gs : List (List ℕ × Bare)) (n : ℕ) (ps : List (List ℕ × Bare)) (text rest : List ℕ) → ListsParameters text gs → first_is is_close rest ≡ true
    → length text ≤ n
    → params_from n ps (text ++ rest) ≡ Some (over ps gs, rest)
unfolding params_from
params_again [] zero ps text rest are h le = rw are refl
params_again [] (suc n) ps text rest are h le = rw (are, closes_no_parameter rest h) refl
params_again (g ∷ gs) zero ps text rest are h le =
    let long : length text ≡ length are.0 + length are.1 = ap length are.2 ∙ length-append are.0 are.1 in
    let short : length are.0 ≡ suc (length (replicate are.3.spaces 32 ++ g.0 ++ are.3.rest)) = ap length are.3.is in
    absurd (omega arith)
params_again (g ∷ gs) (suc n) ps text rest are h le =
    let follow = parameters_follow gs are.1 rest are.4 (closes_follows rest h) in
    let first = parameter_again are.0 g.0 g.1 (are.1 ++ rest) are.3 follow in
    let long : length text ≡ length are.0 + length are.1 = ap length are.2 ∙ length-append are.0 are.1 in
    let short : length are.0 ≡ suc (length (replicate are.3.spaces 32 ++ g.0 ++ are.3.rest)) = ap length are.3.is in
    let again = params_again gs n (with_value ps g.0 g.1) are.1 rest are.4 h (omega arith) in
    let regrouped : text ++ rest ≡ 59 ∷ first.0 = ap (λ (u : List ℕ). u ++ rest) are.2 ∙ append_assoc are.0 are.1 rest ∙ first.1 in
    ap (params_from (suc n) ps) regrouped ∙ ap (λ (o : Option ((List ℕ × Bare) × List ℕ)). o >>= λ k. params_from n (with_value ps k.0.0 k.0.1) k.1) first.2
    ∙ again

pub record TakesParams (t : List ℕ) (x : List (List ℕ × Bare) × List ℕ) : Type 0 where
  pub text : List ℕ
  pub parts : t ≡ text ++ x.1
  pub are : AreParams text x.0

pub params_at_takes : (t : List ℕ) (x : List (List ℕ × Bare) × List ℕ) → IsBytes t → params_at t ≡ Some x → TakesParams t x
unfolding params_at
params_at_takes t x fits e = let p = params_take (length t) [] t x fits e in record { text = p.text; parts = p.parts; are = (p.listed, p.are, p.value) }

pub params_at_again : (text rest : List ℕ) (ps : List (List ℕ × Bare)) → AreParams text ps → first_is is_close rest ≡ true
    → params_at (text ++ rest) ≡ Some (ps, rest)
unfolding params_at
params_at_again text rest ps are h =
    params_again are.0 (length (text ++ rest)) [] text rest are.1 h (omega (arith, length-append text rest))
    ∙ ap (λ (qs : List (List ℕ × Bare)). Some (qs, rest)) (sym are.2)

-- ---- items

pub record TakesItem (t : List ℕ) (x : Item × List ℕ) : Type 0 where
  pub text : List ℕ
  pub parts : t ≡ text ++ x.1
  pub is : IsItem text x.0

pub item_takes : (t : List ℕ) (x : Item × List ℕ) → IsBytes t → item_at t ≡ Some x → TakesItem t x
unfolding item_at
item_takes t x fits e =
    let a = bind_some (bare_at t) (λ b. params_at b.1 >>= λ p. Some (record { bare = b.0; params = p.0 }, p.1)) x e in
    let b = bind_some (params_at a.0.1) (λ p. Some (record { bare = a.0.0; params = p.0 }, p.1)) x a.2 in
    let first = bare_takes t a.0 fits a.1 in
    let second = params_at_takes a.0.1 b.0 (rest_bytes first.text a.0.1 (subst IsBytes first.parts fits)) b.1 in
    let made : Item × List ℕ = (record { bare = a.0.0; params = b.0.0 }, b.0.1) in
    subst (TakesItem t) (some_is made x b.2) (record {
      text = first.text ++ second.text;
      parts = first.parts ∙ ap (λ (u : List ℕ). first.text ++ u) second.parts ∙ sym (append_assoc first.text second.text b.0.1);
      is = record { bare_text = first.text; params_text = second.text; is = refl; bare = first.is; params = second.are };
    })

pub params_follow : (text rest : List ℕ) (ps : List (List ℕ × Bare)) → AreParams text ps → first_is is_close rest ≡ true → first_is is_end (text ++ rest) ≡ true
params_follow text rest ps are h = parameters_follow are.0 text rest are.1 (closes_follows rest h)

pub item_again : (text rest : List ℕ) (v : Item) → IsItem text v → first_is is_close rest ≡ true → item_at (text ++ rest) ≡ Some (v, rest)
unfolding item_at
item_again text rest v i h =
    let regrouped : text ++ rest ≡ i.bare_text ++ (i.params_text ++ rest) = ap (λ (u : List ℕ). u ++ rest) i.is ∙ append_assoc i.bare_text i.params_text rest in
    let first = bare_text_again i.bare_text v.bare (i.params_text ++ rest) i.bare
    (follows_ends (i.params_text ++ rest) (params_follow i.params_text rest v.params i.params h)) in
    let second = params_at_again i.params_text rest v.params i.params h in
    ap item_at regrouped ∙ ap (λ (o : Option (Bare × List ℕ)). o >>= λ b. params_at b.1 >>= λ p. Some (record { bare = b.0; params = p.0 }, p.1)) first
    ∙ ap (λ (o : Option (List (List ℕ × Bare) × List ℕ)). o >>= λ p. Some (record { bare = v.bare; params = p.0 }, p.1)) second
