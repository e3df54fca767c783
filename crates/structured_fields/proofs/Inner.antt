-- Inner lists.
use Rattle.std.proofs.Common.{◌≡◌, ℕ, zero, suc, ◌+◌, ◌≤◌, ◌<◌, true, false, not, cond, List, [], ◌∷◌, ◌++◌, length, replicate, drop, Option, Some, None, refl, sym, ap, subst, ◌∙◌, arith, append_assoc, true≢false, inl, inr}
use Rattle.std.specs.List.{prefix_len}
use Rattle.std.proofs.lemmas.List.{length-append, append-nil, replicate-append-replicate}
use Rattle.base64.specs.GeneralPurpose.{IsBytes}
use Rattle.structured_fields.specs.declared.bare.Bare.{Bare}
use Rattle.structured_fields.specs.declared.item.Item.{Item}
use Rattle.structured_fields.specs.declared.item.InnerList.{InnerList}
use Rattle.structured_fields.specs.Letters.{is_space}
use Rattle.structured_fields.specs.Grammar.{IsItem, SeparatesItems, IsInner, AreSeparated}
use Rattle.structured_fields.specs.Reading.{◌>>=◌, behind, begins, item_at, params_at, is_item_end, items_from, items_at, inner_at}
use Rattle.structured_fields.proofs.Fronts.{bind_some, behind_again, chosen, given, some_is, begun}
use Rattle.structured_fields.proofs.Bares.{rest_bytes}
use Rattle.structured_fields.proofs.Items.{spaced, are_spaces, is_close, first_is, item_takes, item_again, params_at_takes, params_at_again}
use Rattle.structured_fields.proofs.Opens.{is_plain, opens_more, opens_begins, opens_stops, opens_to, opens_some, plain_no_space, item_opens, count_separated}

abbrev pub spaces : ℕ → List ℕ
spaces n = replicate n 32

-- spaces behind spaces
spaces_more : (a b : ℕ) (q : List ℕ) → spaces a ++ (spaces b ++ q) ≡ spaces (a + b) ++ q
spaces_more a b q = sym (append_assoc (spaces a) (spaces b) q) ∙ ap (λ (s : List ℕ). s ++ q) (replicate-append-replicate a b 32)

-- ---- what is read is so written

pub record TakesItems (held : List Item) (t : List ℕ) (y : List Item × List ℕ) : Type 0 where
  pub before : ℕ
  pub after : ℕ
  pub text : List ℕ
  pub items : List Item
  pub parts : t ≡ spaces before ++ (text ++ (spaces after ++ 41 ∷ y.1))
  pub are : AreSeparated SeparatesItems IsItem text items
  pub value : y.0 ≡ held ++ items

-- no item begins with what ends one
item_no_end : (text rest : List ℕ) (v : Item) → IsItem text v → is_item_end (text ++ rest) ≡ false
item_no_end text rest v is =
    let o = opens_more is_plain text rest (item_opens text v is) in
    rw (opens_begins is_plain 32 (text ++ rest) o refl, opens_begins is_plain 41 (text ++ rest) o refl) refl

module _ (held : List Item) (t rest : List ℕ) (b : ℕ) (x : Item) (y : List Item × List ℕ) (first : List ℕ)
    (whole : t ≡ spaces b ++ (first ++ rest)) (is : IsItem first x) (end : is_item_end rest ≡ true) where
  joined : (items : List Item) (before after : ℕ) (text : List ℕ) → rest ≡ spaces before ++ (text ++ (spaces after ++ 41 ∷ y.1))
      → AreSeparated SeparatesItems IsItem text items → y.0 ≡ (held ++ x ∷ []) ++ items → TakesItems held t y
  joined [] before after text parts are value = record {
    before = b;
    after = before + after;
    text = first;
    items = x ∷ [];
    parts = whole ∙ ap (λ (u : List ℕ). spaces b ++ (first ++ u))
        (parts ∙ ap (λ (u : List ℕ). spaces before ++ (u ++ (spaces after ++ 41 ∷ y.1))) are ∙ spaces_more before after (41 ∷ y.1));
    are = (first, [], sym (append-nil first), is, refl);
    value = value ∙ append_assoc held (x ∷ []) [];
  }
  joined (z ∷ items) zero after text parts are value =
      let q : List ℕ = spaces after ++ 41 ∷ y.1 in
      let opened : rest ≡ are.0 ++ (are.1 ++ q) = parts ∙ ap (λ (u : List ℕ). u ++ q) are.2 ∙ append_assoc are.0 are.1 q in
      absurd (true≢false (sym end ∙ ap is_item_end opened ∙ item_no_end are.0 (are.1 ++ q) z are.3))
  joined (z ∷ items) (suc k) after text parts are value =
      let q : List ℕ = spaces after ++ 41 ∷ y.1 in
      record {
        before = b;
        after = after;
        text = first ++ (spaces (suc k) ++ text);
        items = x ∷ z ∷ items;
        parts = whole ∙ ap (λ (u : List ℕ). spaces b ++ u)
            (ap (λ (u : List ℕ). first ++ u) (parts ∙ sym (append_assoc (spaces (suc k)) text q)) ∙ sym (append_assoc first (spaces (suc k) ++ text) q));
        are = (
          first,
          spaces (suc k) ++ text,
          refl,
          is,
          (spaces (suc k), are.0, are.1, ap (λ (u : List ℕ). spaces (suc k) ++ u) are.2, (k, refl), are.3, are.4),
        );
        value = value ∙ append_assoc held (x ∷ []) (z ∷ items);
      }

items_take : (n : ℕ) (held : List Item) (t : List ℕ) (y : List Item × List ℕ) → IsBytes t → items_from n held t ≡ Some y → TakesItems held t y
unfolding items_from
items_take zero held t y fits e = absurd cc
items_take (suc n) held t y fits e =
    let u : List ℕ = behind is_space t in
    let b : ℕ = prefix_len is_space t in
    let s : t ≡ spaces b ++ u = spaced t in
    elim (chosen (begins 41 u) (Some (held, drop 1 u)) (item_at u >>= λ x. cond (is_item_end x.1) (items_from n (held ++ x.0 ∷ []) x.1) None) (Some y) e) [
      | inl p ↦ subst (TakesItems held t) (some_is (held, drop 1 u) y p.1) (record {
        before = b;
        after = 0;
        text = [];
        items = [];
        parts = s ∙ ap (λ (r : List ℕ). spaces b ++ r) (begun 41 u p.0);
        are = refl;
        value = sym (append-nil held);
      })
      | inr p ↦
          let a = bind_some (item_at u) (λ x. cond (is_item_end x.1) (items_from n (held ++ x.0 ∷ []) x.1) None) y p.1 in
          let g = given (is_item_end a.0.1) (items_from n (held ++ a.0.0 ∷ []) a.0.1) y a.2 in
          let u_fits = rest_bytes (spaces b) u (subst IsBytes s fits) in
          let i = item_takes u a.0 u_fits a.1 in
          let r = items_take n (held ++ a.0.0 ∷ []) a.0.1 y (rest_bytes i.text a.0.1 (subst IsBytes i.parts u_fits)) g.1 in
          joined held t a.0.1 b a.0.0 y i.text (s ∙ ap (λ (w : List ℕ). spaces b ++ w) i.parts) i.is g.0 r.items r.before r.after r.text r.parts r.are r.value
    ]

pub record TakesInner (t : List ℕ) (x : InnerList × List ℕ) : Type 0 where
  pub text : List ℕ
  pub parts : 40 ∷ t ≡ text ++ x.1
  pub is : IsInner text x.0

tail_bytes : (before after : ℕ) (text rest : List ℕ) → IsBytes (spaces before ++ (text ++ (spaces after ++ 41 ∷ rest))) → IsBytes rest
tail_bytes before after text rest fits =
    rest_bytes (41 ∷ []) rest (rest_bytes (spaces after) (41 ∷ rest)
    (rest_bytes text (spaces after ++ 41 ∷ rest) (rest_bytes (spaces before) (text ++ (spaces after ++ 41 ∷ rest)) fits)))

-- what stands before the parameters moves into the text
regrouped : (a b c d e : List ℕ) → a ++ (b ++ (c ++ 41 ∷ (d ++ e))) ≡ (a ++ (b ++ (c ++ 41 ∷ d))) ++ e
regrouped a b c d e = sym (append_assoc a (b ++ (c ++ 41 ∷ d)) e
    ∙ ap (λ (u : List ℕ). a ++ u) (append_assoc b (c ++ 41 ∷ d) e ∙ ap (λ (u : List ℕ). b ++ u) (append_assoc c (41 ∷ d) e)))

pub inner_takes : (t : List ℕ) (x : InnerList × List ℕ) → IsBytes t → inner_at t ≡ Some x → TakesInner t x
unfolding inner_at items_at
inner_takes t x fits e =
    let a = bind_some (items_at t) (λ l. params_at l.1 >>= λ p. Some (record { items = l.0; params = p.0 }, p.1)) x e in
    let b = bind_some (params_at a.0.1) (λ p. Some (record { items = a.0.0; params = p.0 }, p.1)) x a.2 in
    let i = items_take (length t) [] t a.0 fits a.1 in
    let p = params_at_takes a.0.1 b.0 (tail_bytes i.before i.after i.text a.0.1 (subst IsBytes i.parts fits)) b.1 in
    let made : InnerList × List ℕ = (record { items = a.0.0; params = b.0.0 }, b.0.1) in
    subst (TakesInner t) (some_is made x b.2) (record {
      text = 40 ∷ spaces i.before ++ (i.text ++ (spaces i.after ++ 41 ∷ p.text));
      parts = ap (λ (u : List ℕ). 40 ∷ u)
          (i.parts ∙ ap (λ (u : List ℕ). spaces i.before ++ (i.text ++ (spaces i.after ++ 41 ∷ u))) p.parts
          ∙ regrouped (spaces i.before) i.text (spaces i.after) p.text b.0.1);
      is = record {
        before = i.before;
        after = i.after;
        items_text = i.text;
        params_text = p.text;
        is = refl;
        items = subst
            (AreSeparated SeparatesItems IsItem i.text) (sym i.value) i.are;
        params = p.are;
      };
    })

-- ---- what is written is read

item_step : (n : ℕ) (held : List Item) (before : ℕ) (first w : List ℕ) (x : Item) → IsItem first x → first_is is_close w ≡ true → is_item_end w ≡ true
    → items_from (suc n) held (spaces before ++ (first ++ w)) ≡ items_from n (held ++ x ∷ []) w
unfolding items_from
item_step n held before first w x is close end =
    let o = opens_more is_plain first w (item_opens first x is) in
    let left : behind is_space (spaces before ++ (first ++ w)) ≡ first
    ++ w = behind_again is_space (spaces before) (first ++ w) (are_spaces before)
    (opens_stops is_space (first ++ w) (opens_to is_plain (λ c. not (is_space c)) (first ++ w) plain_no_space o)) in
    let none : begins 41 (first ++ w) ≡ false = opens_begins is_plain 41 (first ++ w) o refl in
    rw (left, none, item_again first w x is close, end) refl

ends_close : (n : ℕ) (q : List ℕ) → first_is is_close (spaces n ++ 41 ∷ q) ≡ true
ends_close zero q = refl
ends_close (suc n) q = refl

ends_end : (n : ℕ) (q : List ℕ) → is_item_end (spaces n ++ 41 ∷ q) ≡ true
ends_end zero q = refl
ends_end (suc n) q = refl

items_end : (n : ℕ) (held : List Item) (before after : ℕ) (rest : List ℕ)
    → items_from (suc n) held (spaces before ++ (spaces after ++ 41 ∷ rest)) ≡ Some (held, rest)
unfolding items_from
items_end n held before after rest =
    let left : behind is_space (spaces before ++ (spaces after ++ 41 ∷ rest)) ≡ 41 ∷ rest = ap (behind is_space) (spaces_more before after (41 ∷ rest))
    ∙ behind_again is_space (spaces (before + after)) (41 ∷ rest) (are_spaces (before + after)) refl in
    rw left refl

items_again : (items : List Item) (n : ℕ) (held : List Item) (before after : ℕ) (text rest : List ℕ) → AreSeparated SeparatesItems IsItem text items
    → length items < n
    → items_from n held (spaces before ++ (text ++ (spaces after ++ 41 ∷ rest))) ≡ Some (held ++ items, rest)
items_again items zero held before after text rest are lt = absurd (omega arith)
items_again [] (suc n) held before after text rest are lt =
    ap (λ (u : List ℕ). items_from (suc n) held (spaces before ++ (u ++ (spaces after ++ 41 ∷ rest)))) are ∙ items_end n held before after rest
    ∙ ap (λ (h : List Item). Some (h, rest)) (sym (append-nil held))
items_again (x ∷ []) (suc n) held before after text rest are lt =
    let q : List ℕ = spaces after ++ 41 ∷ rest in
    let whole : text ≡ are.0 = are.2 ∙ ap (λ (u : List ℕ). are.0 ++ u) are.4 ∙ append-nil are.0 in
    ap (λ (u : List ℕ). items_from (suc n) held (spaces before ++ (u ++ q))) whole
    ∙ item_step n held before are.0 q x are.3 (ends_close after rest) (ends_end after rest)
    ∙ items_again [] n (held ++ x ∷ []) 0 after [] rest refl (omega arith) ∙ ap (λ (h : List Item). Some (h, rest)) (append_assoc held (x ∷ []) [])
items_again (x ∷ z ∷ items) (suc n) held before after text rest are lt =
    let q : List ℕ = spaces after ++ 41 ∷ rest in
    let further = are.4 in
    let k : ℕ = further.4.0 in
    let body : List ℕ = further.1 ++ further.2 in
    let w : List ℕ = spaces (suc k) ++ (body ++ q) in
    let whole : text ++ q ≡ are.0 ++ w = ap (λ (u : List ℕ). u ++ q)
    (are.2 ∙ ap (λ (u : List ℕ). are.0 ++ u) (further.3 ∙ ap (λ (u : List ℕ). u ++ body) further.4.1)) ∙ append_assoc are.0 (spaces (suc k) ++ body) q
    ∙ ap (λ (u : List ℕ). are.0 ++ u) (append_assoc (spaces (suc k)) body q) in
    ap (λ (u : List ℕ). items_from (suc n) held (spaces before ++ u)) whole ∙ item_step n held before are.0 w x are.3 refl refl
    ∙ items_again (z ∷ items) n (held ++ x ∷ []) (suc k) after body rest (further.1, further.2, refl, further.5, further.6) (omega arith)
    ∙ ap (λ (h : List Item). Some (h, rest)) (append_assoc held (x ∷ []) (z ∷ items))

pub inner_again : (text rest : List ℕ) (v : InnerList) → IsInner text v → first_is is_close rest ≡ true
    → (t : List ℕ) × (text ++ rest ≡ 40 ∷ t) × (inner_at t ≡ Some (v, rest))
unfolding inner_at items_at
inner_again text rest v i h =
    let q : List ℕ = i.params_text ++ rest in
    let tail : List ℕ = spaces i.after ++ 41 ∷ q in
    let t : List ℕ = spaces i.before ++ (i.items_text ++ tail) in
    let whole : text ++ rest ≡ 40 ∷ t = ap (λ (u : List ℕ). u ++ rest) i.is
    ∙ ap (λ (u : List ℕ). 40 ∷ u) (sym (regrouped (spaces i.before) i.items_text (spaces i.after) i.params_text rest)) in
    let few : length v.items ≤ length i.items_text = count_separated SeparatesItems IsItem (λ text x is. opens_some is_plain text (item_opens text x is))
    v.items i.items_text i.items in
    let long : length t ≡ length (spaces i.before) + (length i.items_text + (length (spaces i.after) + suc (length q))) =
    length-append (spaces i.before) (i.items_text ++ tail)
    ∙ ap (λ (n : ℕ). length (spaces i.before) + n)
    (length-append i.items_text tail ∙ ap (λ (n : ℕ). length i.items_text + n) (length-append (spaces i.after) (41 ∷ q))) in
    let items : items_at t ≡ Some (v.items, q) = items_again v.items (length t) [] i.before i.after i.items_text q i.items (omega arith) in
    let params : params_at q ≡ Some (v.params, rest) = params_at_again i.params_text rest v.params i.params h in (
      t,
      whole,
      ap (λ (o : Option (List Item × List ℕ)). o >>= λ l. params_at l.1 >>= λ p. Some (record { items = l.0; params = p.0 }, p.1)) items
          ∙ ap (λ (o : Option (List (List ℕ × Bare) × List ℕ)). o >>= λ p. Some (record { items = v.items; params = p.0 }, p.1)) params,
    )
