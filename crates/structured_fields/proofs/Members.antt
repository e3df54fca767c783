-- Members and entries, and members with commas between them: a list's, and a dictionary's entries.
use Rattle.std.proofs.Common.{◌≡◌, ℕ, zero, suc, ◌<◌, ◌==◌, true, false, not, cond, ◌⊎◌, inl, inr, List, [], ◌∷◌, ◌++◌, length, drop, fold, Option, Some, None, refl, sym, ap, subst, ◌∙◌, arith, append_assoc}
use Rattle.std.specs.Option.{option_map, option_map_or}
use Rattle.std.specs.List.{list_all}
use Rattle.std.proofs.lemmas.List.{append-nil, nil_from_length}
use Rattle.std.proofs.lemmas.Bool.{eqb-true, and_parts}
use Rattle.std.proofs.Math.Dec.{eqb-suc-zero}
use Rattle.std.proofs.lemmas.Bool.Decides.{nat_tests}
use Rattle.base64.specs.GeneralPurpose.{IsBytes}
use Rattle.structured_fields.specs.declared.bare.Bare.{Bare}
use Rattle.structured_fields.specs.declared.bare.Bare.TheVariants.{Boolean}
use Rattle.structured_fields.specs.declared.item.Item.{Item}
use Rattle.structured_fields.specs.declared.item.InnerList.{InnerList}
use Rattle.structured_fields.specs.declared.item.Member.{Member}
use Rattle.structured_fields.specs.declared.item.Member.TheVariants.{Item as Single, Inner}
use Rattle.structured_fields.specs.Letters.{is_ows, is_key, is_key_start, is_key_byte}
use Rattle.structured_fields.specs.Grammar.{SeparatesMembers, AreSeparated, IsMember, IsGiven, IsBareTrue, IsEntry}
use Rattle.structured_fields.specs.Reading.{◌>>=◌, front, behind, begins, key_at, params_at, item_at, inner_at, member_at, entry_value_at, entry_at, next_at, members_from}
use Rattle.structured_fields.proofs.Fronts.{bind_some, mapped, behind_again, parts, chosen, given, some_is, begun, ends_key, stops}
use Rattle.structured_fields.proofs.Runs.{front_all}
use Rattle.structured_fields.proofs.Bares.{rest_bytes, key_takes, key_again}
use Rattle.structured_fields.proofs.Items.{is_close, first_is, follows_ends, follows_no_value, item_takes, item_again, params_at_takes, params_at_again, params_follow}
use Rattle.structured_fields.proofs.Opens.{Opens, is_plain, opens_more, opens_begins, opens_stops, opens_to, plain_no_ows, item_opens}
use Rattle.structured_fields.proofs.Inner.{inner_takes, inner_again}

-- ---- members

pub record TakesMember {M : Type 0} (Is : List ℕ → M → Type 0) (t : List ℕ) (x : M × List ℕ) : Type 0 where
  pub text : List ℕ
  pub parts : t ≡ text ++ x.1
  pub is : Is text x.0

pub member_takes : (t : List ℕ) (x : Member × List ℕ) → IsBytes t → member_at t ≡ Some x → TakesMember IsMember t x
unfolding member_at
member_takes t x fits e =
    elim (chosen (begins 40 t) (option_map (λ y. (Inner y.0, y.1)) (inner_at (drop 1 t))) (option_map (λ y. (Single y.0, y.1)) (item_at t)) (Some x) e) [
      | inl p ↦
          let whole = begun 40 t p.0 in
          let m = mapped (λ (y : InnerList × List ℕ). (Inner y.0, y.1)) (inner_at (drop 1 t)) x p.1 in
          let i = inner_takes (drop 1 t) m.0 (rest_bytes (40 ∷ []) (drop 1 t) (subst IsBytes whole fits)) m.1 in
          subst (TakesMember IsMember t) m.2 (record { text = i.text; parts = whole ∙ i.parts; is = i.is })
      | inr p ↦
          let m = mapped (λ (y : Item × List ℕ). (Single y.0, y.1)) (item_at t) x p.1 in
          let i = item_takes t m.0 fits m.1 in
          subst (TakesMember IsMember t) m.2 (record { text = i.text; parts = i.parts; is = i.is })
    ]

pub member_again : (text rest : List ℕ) (m : Member) → IsMember text m → first_is is_close rest ≡ true → member_at (text ++ rest) ≡ Some (m, rest)
unfolding member_at
member_again text rest (Single v) is h =
    let none = opens_begins is_plain 40 (text ++ rest) (opens_more is_plain text rest (item_opens text v is)) refl in
    rw (none, item_again text rest v is h) refl
member_again text rest (Inner v) is h =
    let r = inner_again text rest v is h in
    rw (r.1, r.2) refl

-- neither a space nor a tab comes first
pub member_opens : (text : List ℕ) (m : Member) → IsMember text m → Opens (λ c. not (is_ows c)) text
member_opens text (Single v) is = opens_to is_plain (λ c. not (is_ows c)) text plain_no_ows (item_opens text v is)
member_opens text (Inner v) is = record { first = 40; others = _; is = is.is; passes = refl }

-- ---- entries

entry_value_takes : (t : List ℕ) (x : Member × List ℕ) → IsBytes t → entry_value_at t ≡ Some x → TakesMember (λ text m. IsGiven text m ⊎ IsBareTrue text m) t x
unfolding entry_value_at
entry_value_takes t x fits e =
    elim (chosen (begins 61 t) (member_at (drop 1 t)) (option_map (λ p. (Single (record { bare = Boolean true; params = p.0 }), p.1)) (params_at t)) (Some x) e) [
      | inl p ↦
          let whole = begun 61 t p.0 in
          let m = member_takes (drop 1 t) x (rest_bytes (61 ∷ []) (drop 1 t) (subst IsBytes whole fits)) p.1 in
          record {
            text = 61 ∷ m.text;
            parts = whole
                ∙ ap (λ (r : List ℕ). 61 ∷ r) m.parts;
            is = inl (record { member_text = m.text; is = refl; member = m.is });
          }
      | inr p ↦
          let m = mapped (λ (y : List (List ℕ × Bare) × List ℕ). (Single (record { bare = Boolean true; params = y.0 }), y.1)) (params_at t) x p.1 in
          let q = params_at_takes t m.0 fits m.1 in
          subst (TakesMember (λ text m. IsGiven text m ⊎ IsBareTrue text m) t) m.2
          (record { text = q.text; parts = q.parts; is = inr (record { params = m.0.0; is = q.are; value = refl }) })
    ]

entry_value_again : (text rest : List ℕ) (m : Member) → IsGiven text m ⊎ IsBareTrue text m → first_is is_close rest ≡ true
    → entry_value_at (text ++ rest) ≡ Some (m, rest)
unfolding entry_value_at
entry_value_again text rest m (inl g) h = ap (λ (u : List ℕ). entry_value_at (u ++ rest)) g.is ∙ member_again g.member_text rest m g.member h
entry_value_again text rest m (inr g) h =
    let none = follows_no_value (text ++ rest) (params_follow text rest g.params g.is h) in
    rw (none, params_at_again text rest g.params g.is h) (ap (λ (n : Member). Some (n, rest)) (sym g.value))

pub entry_takes : (t : List ℕ) (x : (List ℕ × Member) × List ℕ) → IsBytes t → entry_at t ≡ Some x → TakesMember IsEntry t x
unfolding entry_at
entry_takes t x fits e =
    let a = bind_some (key_at t) (λ k. entry_value_at k.1 >>= λ m. Some ((k.0, m.0), m.1)) x e in
    let b = bind_some (entry_value_at a.0.1) (λ m. Some ((a.0.0, m.0), m.1)) x a.2 in
    let k = key_takes t a.0 a.1 in
    let m = entry_value_takes a.0.1 b.0 (rest_bytes a.0.0 a.0.1 (subst IsBytes k.parts fits)) b.1 in
    let made : (List ℕ × Member) × List ℕ = ((a.0.0, b.0.0), b.0.1) in
    subst (TakesMember IsEntry t) (some_is made x b.2) (record {
      text = a.0.0 ++ m.text;
      parts = k.parts ∙ ap (λ (u : List ℕ). a.0.0 ++ u) m.parts ∙ sym (append_assoc a.0.0 m.text b.0.1);
      is = record { rest = m.text; key = k.key; is = refl; member = m.is };
    })

-- what stands behind the key of an entry is no byte of a key
value_stops : (text rest : List ℕ) (m : Member) → IsGiven text m ⊎ IsBareTrue text m → first_is is_close rest ≡ true → stops is_key_byte (text ++ rest) ≡ true
value_stops text rest m (inl g) h = ap (λ (u : List ℕ). stops is_key_byte (u ++ rest)) g.is
value_stops text rest m (inr g) h = ends_key (text ++ rest) (follows_ends (text ++ rest) (params_follow text rest g.params g.is h))

pub entry_again : (text rest : List ℕ) (e : List ℕ × Member) → IsEntry text e → first_is is_close rest ≡ true → entry_at (text ++ rest) ≡ Some (e, rest)
unfolding entry_at
entry_again text rest e i h =
    let whole : text ++ rest ≡ e.0 ++ (i.rest ++ rest) = ap (λ (u : List ℕ). u ++ rest) i.is ∙ append_assoc e.0 i.rest rest in
    let key : key_at (text ++ rest) ≡ Some (e.0, i.rest ++ rest) = ap key_at whole
    ∙ key_again e.0 (i.rest ++ rest) i.key (value_stops i.rest rest e.1 i.member h) in
    let value = entry_value_again i.rest rest e.1 i.member h in
    ap (λ (o : Option (List ℕ × List ℕ)). o >>= λ k. entry_value_at k.1 >>= λ m. Some ((k.0, m.0), m.1)) key
    ∙ ap (λ (o : Option (Member × List ℕ)). o >>= λ m. Some ((e.0, m.0), m.1)) value

key_no_ows : (c : ℕ) → is_key_start c ≡ true → not (is_ows c) ≡ true
key_no_ows c h = grind (arith, nat_tests)

pub key_opens : (name : List ℕ) → is_key name ≡ true → Opens (λ c. not (is_ows c)) name
key_opens [] key = absurd cc
key_opens (c ∷ name) key = record { first = c; others = name; is = refl; passes = key_no_ows c (and_parts (is_key_start c) (list_all is_key_byte name) key).0 }

pub entry_opens : (text : List ℕ) (e : List ℕ × Member) → IsEntry text e → Opens (λ c. not (is_ows c)) text
entry_opens text e i = subst (Opens (λ c. not (is_ows c))) (sym i.is) (opens_more (λ c. not (is_ows c)) e.0 i.rest (key_opens e.0 i.key))

-- ---- what stands behind a member

ows_close : (c : ℕ) → is_ows c ≡ true → is_close c ≡ true
ows_close c h = grind (arith, nat_tests)

pub ows_closes : (tail : List ℕ) → list_all is_ows tail ≡ true → first_is is_close tail ≡ true
ows_closes [] h = refl
ows_closes (c ∷ tail) h = ows_close c (and_parts (is_ows c) (list_all is_ows tail) h).0

comma_closes : (before rest : List ℕ) → list_all is_ows before ≡ true → first_is is_close (before ++ 44 ∷ rest) ≡ true
comma_closes [] rest h = refl
comma_closes (c ∷ before) rest h = ows_close c (and_parts (is_ows c) (list_all is_ows before) h).0

no_next : (tail : List ℕ) → list_all is_ows tail ≡ true → next_at tail ≡ Some None
unfolding next_at
no_next tail h =
    let none : behind is_ows tail ≡ [] = ap (behind is_ows) (sym (append-nil tail)) ∙ behind_again is_ows tail [] h refl in
    rw none refl

next_again : (before after u : List ℕ) → list_all is_ows before ≡ true → list_all is_ows after ≡ true → stops is_ows u ≡ true
    → next_at (before ++ 44 ∷ (after ++ u)) ≡ Some (Some u)
unfolding next_at
next_again before after u b a stop =
    let left : behind is_ows (before ++ 44 ∷ (after ++ u)) ≡ 44 ∷ (after ++ u) = behind_again is_ows before (44 ∷ (after ++ u)) b refl in
    let start : behind is_ows (after ++ u) ≡ u = behind_again is_ows after u a stop in
    let some : (length (44 ∷ (after ++ u)) == 0) ≡ false = eqb-suc-zero (length (after ++ u)) in
    rw (left, some, start) refl

-- what next_at finds
pub record TakesComma (t u : List ℕ) : Type 0 where
  pub between : List ℕ
  pub parts : t ≡ between ++ u
  pub is : SeparatesMembers between

next_takes : (t : List ℕ) (next : Option (List ℕ)) → next_at t ≡ Some next
    → ((next ≡ None) × (list_all is_ows t ≡ true)) ⊎ ((u : List ℕ) × (next ≡ Some u) × TakesComma t u)
unfolding next_at
next_takes t next e =
    let left : List ℕ = behind is_ows t in
    let before : List ℕ = front is_ows t in
    let split : t ≡ before ++ left = parts is_ows t in
    elim (chosen (length left == 0) (Some None) (cond (begins 44 left) (Some (Some (behind is_ows (drop 1 left)))) None) (Some next) e) [
      | inl p ↦
          let nothing : left ≡ [] = nil_from_length left (eqb-true (length left) 0 p.0) in
          let all : t ≡ before = split ∙ ap (λ (u : List ℕ). before ++ u) nothing ∙ append-nil before in
          inl (sym (some_is None next p.1), ap (list_all is_ows) all ∙ front_all is_ows t)
      | inr p ↦
          let g = given (begins 44 left) (Some (Some (behind is_ows (drop 1 left)))) next p.1 in
          let after : List ℕ = front is_ows (drop 1 left) in
          let u : List ℕ = behind is_ows (drop 1 left) in
          inr (
            u,
            sym (some_is (Some u) next g.1),
            record {
              between = before ++ 44 ∷ after;
              parts = split ∙ ap (λ (r : List ℕ). before ++ r) (begun 44 left g.0 ∙ ap (λ (r : List ℕ). 44 ∷ r) (parts is_ows (drop 1 left)))
                  ∙ sym (append_assoc before (44 ∷ after) u);
              is = record { before = before; after = after; is = refl; before_ows = front_all is_ows t; after_ows = front_all is_ows (drop 1 left) };
            },
          )
    ]

-- ---- members with commas between them

module _ {H M : Type 0} (read : List ℕ → Option (M × List ℕ)) (add : H → M → H) (Is : List ℕ → M → Type 0) where
  pub record TakesMembers (held : H) (t : List ℕ) (h : H) : Type 0 where
    pub head : M
    pub others : List M
    pub body : List ℕ
    pub tail : List ℕ
    pub parts : t ≡ body ++ tail
    pub ows : list_all is_ows tail ≡ true
    pub are : AreSeparated SeparatesMembers Is body (head ∷ others)
    pub value : h ≡ fold add held (head ∷ others)

  module _ (takes : (t : List ℕ) (x : M × List ℕ) → IsBytes t → read t ≡ Some x → TakesMember Is t x) where
    pub members_take : (n : ℕ) (held : H) (t : List ℕ) (h : H) → IsBytes t → members_from read add n held t ≡ Some h → TakesMembers held t h
    unfolding members_from
    members_take zero held t h fits e = absurd cc
    members_take (suc n) held t h fits e =
        let a = bind_some (read t) (λ x. next_at x.1 >>= λ next. option_map_or (λ u. members_from read add n (add held x.0) u) next (Some (add held x.0))) h
        e in
        let x : M = a.0.0 in
        let rest : List ℕ = a.0.1 in
        let b = bind_some (next_at rest) (λ next. option_map_or (λ u. members_from read add n (add held x) u) next (Some (add held x))) h a.2 in
        let m = takes t a.0 fits a.1 in
        elim (next_takes rest b.0 b.1) [
          | inl p ↦
              let e : Some (add held x) ≡ Some h = subst
              (λ (o : Option (List ℕ)). option_map_or (λ u. members_from read add n (add held x) u) o (Some (add held x)) ≡ Some h) p.0 b.2 in
              record {
                head = x;
                others = [];
                body = m.text;
                tail = rest;
                parts = m.parts;
                ows = p.1;
                are = (m.text, [], sym (append-nil m.text), m.is, refl);
                value = sym (some_is (add held x) h e);
              }
          | inr p ↦
              let e : members_from read add n (add held x) p.0
              ≡ Some h = subst (λ (o : Option (List ℕ)). option_map_or (λ u. members_from read add n (add held x) u) o (Some (add held x)) ≡ Some h) p.1
              b.2 in
              let k = p.2 in
              let fits_rest = rest_bytes m.text rest (subst IsBytes m.parts fits) in
              let r = members_take n (add held x) p.0 h (rest_bytes k.between p.0 (subst IsBytes k.parts fits_rest)) e in
              record {
                head = x;
                others = r.head ∷ r.others;
                body = m.text ++ (k.between ++ r.body);
                tail = r.tail;
                parts = m.parts ∙ ap (λ (u : List ℕ). m.text ++ u)
                    (k.parts ∙ ap (λ (u : List ℕ). k.between ++ u) r.parts ∙ sym (append_assoc k.between r.body r.tail))
                    ∙ sym (append_assoc m.text (k.between ++ r.body) r.tail);
                ows = r.ows;
                are = (
                  m.text,
                  k.between ++ r.body,
                  refl,
                  m.is,
                  (k.between, r.are.0, r.are.1, ap (λ (u : List ℕ). k.between ++ u) r.are.2, k.is, r.are.3, r.are.4),
                );
                value = r.value;
              }
        ]

  module _ (again : (text rest : List ℕ) (m : M) → Is text m → first_is is_close rest ≡ true → read (text ++ rest) ≡ Some (m, rest))
      (opens : (text : List ℕ) (m : M) → Is text m → Opens (λ c. not (is_ows c)) text) where
    pub members_again : (ms : List M) (n : ℕ) (held : H) (m : M) (text tail : List ℕ) → AreSeparated SeparatesMembers Is text (m ∷ ms)
        → list_all is_ows tail ≡ true → length ms < n
        → members_from read add n held (text ++ tail) ≡ Some (fold add held (m ∷ ms))
    unfolding members_from
    members_again ms zero held m text tail are h lt = absurd (omega arith)
    members_again [] (suc n) held m text tail are h lt =
        let whole : text ≡ are.0 = are.2 ∙ ap (λ (u : List ℕ). are.0 ++ u) are.4 ∙ append-nil are.0 in
        ap (λ (u : List ℕ). members_from read add (suc n) held (u ++ tail)) whole ∙ rw (again are.0 tail m are.3 (ows_closes tail h), no_next tail h) refl
    members_again (k ∷ ms) (suc n) held m text tail are h lt =
        let f = are.4 in
        let c = f.4 in
        let body : List ℕ = f.1 ++ f.2 in
        let next : List ℕ = body ++ tail in
        let rest : List ℕ = c.before ++ 44 ∷ (c.after ++ next) in
        let whole : text ++ tail ≡ are.0 ++ rest =
        ap (λ (u : List ℕ). u ++ tail) (are.2 ∙ ap (λ (u : List ℕ). are.0 ++ u) (f.3 ∙ ap (λ (u : List ℕ). u ++ body) c.is))
        ∙ append_assoc are.0 ((c.before ++ 44 ∷ c.after) ++ body) tail
        ∙ ap (λ (u : List ℕ). are.0 ++ u) (append_assoc (c.before ++ 44 ∷ c.after) body tail ∙ append_assoc c.before (44 ∷ c.after) next) in
        let one = again are.0 rest m are.3 (comma_closes c.before (c.after ++ next) c.before_ows) in
        let starts : stops is_ows next ≡ true = opens_stops is_ows next
        (subst (Opens (λ c. not (is_ows c))) (sym (append_assoc f.1 f.2 tail)) (opens_more (λ c. not (is_ows c)) f.1 (f.2 ++ tail) (opens f.1 k f.5))) in
        let comma = next_again c.before c.after next c.before_ows c.after_ows starts in
        let others = members_again ms n (add held m) k body tail (f.1, f.2, refl, f.5, f.6) h (omega arith) in
        ap (members_from read add (suc n) held) whole ∙ rw (one, comma, others) refl
