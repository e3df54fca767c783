-- Whole texts: items, lists and dictionaries.
use Rattle.std.proofs.Common.{◌≡◌, ℕ, zero, suc, ◌≤◌, ◌<◌, ◌==◌, Bool, true, false, not, cond, inl, inr, List, [], ◌∷◌, ◌++◌, length, replicate, fold, Option, Some, None, refl, sym, ap, subst, ◌∙◌, arith, append_assoc}
use Rattle.std.specs.List.{prefix_len}
use Rattle.std.proofs.lemmas.List.{length-append, append-nil, nil_from_length}
use Rattle.std.proofs.lemmas.Bool.{eqb-true}
use Rattle.std.proofs.lemmas.Bool.Decides.{nat_tests}
use Rattle.base64.specs.GeneralPurpose.{IsBytes}
use Rattle.structured_fields.specs.declared.item.Item.{Item}
use Rattle.structured_fields.specs.declared.item.Member.{Member}
use Rattle.structured_fields.specs.Letters.{is_space, is_ows}
use Rattle.structured_fields.specs.Grammar.{IsItemText, SeparatesMembers, IsMember, IsEntry, AreMembersText, IsListText, IsDictionaryText}
use Rattle.structured_fields.specs.Reading.{◌>>=◌, behind, item_at, member_at, entry_at, members_from, members_of, with_last, with_entry, item_of, list_of, dictionary_of}
use Rattle.structured_fields.proofs.Fronts.{bind_some, behind_again, chosen, given, some_is, stops}
use Rattle.structured_fields.proofs.Bares.{rest_bytes}
use Rattle.structured_fields.proofs.Items.{spaced, are_spaces, is_close, first_is, item_takes, item_again}
use Rattle.structured_fields.proofs.Opens.{Opens, is_plain, opens_more, opens_stops, opens_to, opens_some, plain_no_space, item_opens, count_separated}
use Rattle.structured_fields.proofs.Members.{TakesMember, members_take, members_again, member_takes, member_again, member_opens, entry_takes, entry_again, entry_opens}

-- ---- items

spaces_close : (n : ℕ) → first_is is_close (replicate n 32) ≡ true
spaces_close zero = refl
spaces_close (suc n) = refl

pub item_of_takes : (t : List ℕ) (v : Item) → IsBytes t → item_of t ≡ Some v → IsItemText t v
unfolding item_of
item_of_takes t v fits e =
    let left = behind is_space t in
    let a = bind_some (item_at left) (λ x. cond (length (behind is_space x.1) == 0) (Some x.0) None) v e in
    let s = spaced t in
    let g = given (length (behind is_space a.0.1) == 0) (Some a.0.0) v a.2 in
    let i = item_takes left a.0 (rest_bytes (replicate (prefix_len is_space t) 32) left (subst IsBytes s fits)) a.1 in
    let nothing : behind is_space a.0.1 ≡ [] = nil_from_length (behind is_space a.0.1) (eqb-true _ _ g.0) in
    let tail : a.0.1 ≡ replicate (prefix_len is_space a.0.1) 32 = spaced a.0.1 ∙ ap (λ (u : List ℕ). replicate (prefix_len is_space a.0.1) 32 ++ u) nothing
    ∙ append-nil (replicate (prefix_len is_space a.0.1) 32) in
    subst (IsItemText t) (some_is a.0.0 v g.1) (record {
      before = prefix_len is_space t;
      after = prefix_len is_space a.0.1;
      body = i.text;
      is = s ∙ ap (λ (u : List ℕ). replicate (prefix_len is_space t) 32 ++ u) (i.parts ∙ ap (λ (u : List ℕ). i.text ++ u) tail);
      item = i.is;
    })

pub item_of_again : (t : List ℕ) (v : Item) → IsItemText t v → item_of t ≡ Some v
unfolding item_of
item_of_again t v i =
    let tail : List ℕ = replicate i.after 32 in
    let stop : stops is_space (i.body ++ tail)
    ≡ true = opens_stops is_space (i.body ++ tail)
    (opens_to is_plain (λ c. not (is_space c)) (i.body ++ tail) plain_no_space (opens_more is_plain i.body tail (item_opens i.body v i.item))) in
    let left : behind is_space (replicate i.before 32 ++ (i.body ++ tail)) ≡ i.body
    ++ tail = behind_again is_space (replicate i.before 32) (i.body ++ tail) (are_spaces i.before) stop in
    let read : item_at (behind is_space t) ≡ Some (v, tail) = ap (λ (u : List ℕ). item_at (behind is_space u)) i.is ∙ ap item_at left
    ∙ item_again i.body tail v i.item (spaces_close i.after) in
    let none : behind is_space tail ≡ [] = ap (behind is_space) (sym (append-nil tail)) ∙ behind_again is_space tail [] (are_spaces i.after) refl in
    ap (λ (o : Option (Item × List ℕ)). o >>= λ x. cond (length (behind is_space x.1) == 0) (Some x.0) None) read
    ∙ ap (λ (u : List ℕ). cond (length u == 0) (Some v) None) none

-- ---- members

ows_no_space : (c : ℕ) → not (is_ows c) ≡ true → not (is_space c) ≡ true
ows_no_space c h = grind (arith, nat_tests)

module _ {H M : Type 0} (read : List ℕ → Option (M × List ℕ)) (add : H → M → H) (Is : List ℕ → M → Type 0) where
  pub record TakesAll (none : H) (t : List ℕ) (h : H) : Type 0 where
    pub members : List M
    pub are : AreMembersText Is t members
    pub value : h ≡ fold add none members

  members_of_takes : ((t : List ℕ) (x : M × List ℕ) → IsBytes t → read t ≡ Some x → TakesMember Is t x)
      → (none : H) (t : List ℕ) (h : H) → IsBytes t → members_of read add none (behind is_space t) ≡ Some h → TakesAll none t h
  unfolding members_of
  members_of_takes takes none t h fits e =
      let u : List ℕ = behind is_space t in
      let b : ℕ = prefix_len is_space t in
      let s : t ≡ replicate b 32 ++ u = spaced t in
      elim (chosen (length u == 0) (Some none) (members_from read add (length u) none u) (Some h) e) [
        | inl p ↦
            let nothing : u ≡ [] = nil_from_length u (eqb-true (length u) 0 p.0) in
            record {
              members = [];
              are = record
                  { before = b; body = []; after = []; is = s ∙ ap (λ (r : List ℕ). replicate b 32 ++ r) nothing; members = refl; end = refl };
              value = sym
                  (some_is none h p.1);
            }
        | inr p ↦
            let m = members_take read add Is takes (length u) none u h (rest_bytes (replicate b 32) u (subst IsBytes s fits)) p.1 in
            record {
              members = m.head ∷ m.others;
              are = record
                  { before = b; body = m.body; after = m.tail; is = s ∙ ap (λ (r : List ℕ). replicate b 32 ++ r) m.parts; members = m.are; end = m.ows };
              value =
                  m.value;
            }
      ]

  members_of_again : ((text rest : List ℕ) (m : M) → Is text m → first_is is_close rest ≡ true → read (text ++ rest) ≡ Some (m, rest))
      → ((text : List ℕ) (m : M) → Is text m → Opens (λ c. not (is_ows c)) text)
      → (none : H) (t : List ℕ) (ms : List M) → AreMembersText Is t ms → members_of read add none (behind is_space t) ≡ Some (fold add none ms)
  unfolding members_of
  members_of_again again opens none t [] i =
      let whole : t ≡ replicate i.before 32 = i.is ∙ ap (λ (u : List ℕ). replicate i.before 32 ++ (u ++ i.after)) i.members
      ∙ ap (λ (u : List ℕ). replicate i.before 32 ++ u) i.end ∙ append-nil (replicate i.before 32) in
      let left : behind is_space t ≡ [] = ap (behind is_space) (whole ∙ sym (append-nil (replicate i.before 32)))
      ∙ behind_again is_space (replicate i.before 32) [] (are_spaces i.before) refl in
      rw left refl
  members_of_again again opens none t (m ∷ ms) i =
      let u : List ℕ = i.body ++ i.after in
      let are = i.members in
      let o = opens are.0 m are.3 in
      let whole : u ≡ are.0 ++ (are.1 ++ i.after) = ap (λ (r : List ℕ). r ++ i.after) are.2 ∙ append_assoc are.0 are.1 i.after in
      let start : Opens (λ c. not (is_ows c)) u = subst (Opens (λ c. not (is_ows c))) (sym whole)
      (opens_more (λ c. not (is_ows c)) are.0 (are.1 ++ i.after) o) in
      let left : behind is_space t ≡ u = ap (behind is_space) i.is
      ∙ behind_again is_space (replicate i.before 32) u (are_spaces i.before)
      (opens_stops is_space u (opens_to (λ c. not (is_ows c)) (λ c. not (is_space c)) u ows_no_space start)) in
      let long : 1 ≤ length u = opens_some (λ c. not (is_ows c)) u start in
      let some : (length u == 0) ≡ false = grind (arith, nat_tests, long) in
      let few : length (m ∷ ms) ≤ length i.body = count_separated SeparatesMembers Is (λ text m is. opens_some (λ c. not (is_ows c)) text (opens text m is))
      (m ∷ ms) i.body are in
      let lt : length ms < length u = let sum = length-append i.body i.after in omega arith in
      ap (λ (r : List ℕ). cond (length r == 0) (Some none) (members_from read add (length r) none r)) left
      ∙ ap (λ (b : Bool). cond b (Some none) (members_from read add (length u) none u)) some
      ∙ members_again read add Is again opens ms (length u) none m i.body i.after are i.end lt

-- members one after the other, each last
fold_last : (held ms : List Member) → fold with_last held ms ≡ held ++ ms
fold_last held [] = sym (append-nil held)
fold_last held (m ∷ ms) = fold_last (held ++ m ∷ []) ms ∙ append_assoc held (m ∷ []) ms

pub list_of_takes : (t : List ℕ) (v : List Member) → IsBytes t → list_of t ≡ Some v → IsListText t v
unfolding list_of
list_of_takes t v fits e =
    let a = members_of_takes member_at with_last IsMember member_takes [] t v fits e in
    subst (IsListText t) (sym (a.value ∙ fold_last [] a.members)) a.are

pub list_of_again : (t : List ℕ) (v : List Member) → IsListText t v → list_of t ≡ Some v
unfolding list_of
list_of_again t v i = members_of_again member_at with_last IsMember member_again member_opens [] t v i ∙ ap (λ (ms : List Member). Some ms) (fold_last [] v)

pub dictionary_of_takes : (t : List ℕ) (v : List (List ℕ × Member)) → IsBytes t → dictionary_of t ≡ Some v → IsDictionaryText t v
unfolding dictionary_of
dictionary_of_takes t v fits e =
    let a = members_of_takes entry_at with_entry IsEntry entry_takes [] t v fits e in
    record { entries = a.members; is = a.are; value = a.value }

pub dictionary_of_again : (t : List ℕ) (v : List (List ℕ × Member)) → IsDictionaryText t v → dictionary_of t ≡ Some v
unfolding dictionary_of
dictionary_of_again t v i = members_of_again entry_at with_entry IsEntry entry_again entry_opens [] t i.entries i.is
    ∙ ap (λ (es : List (List ℕ × Member)). Some es) (sym i.value)
