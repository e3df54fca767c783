-- The one signature with the tag.
use Rattle.std.proofs.Common.{◌≡◌, ℕ, Bool, true, false, List, [], ◌∷◌, ◌++◌, Ok, refl, sym, ap, ◌∙◌, subst, true≢false}
use Rattle.std.specs.Prelude.{codes}
use Rattle.std.specs.List.{AllByRecursion}
use Rattle.structured_fields.specs.declared.item.InnerList.{InnerList}
use Rattle.structured_fields.specs.declared.item.Member.{Member}
use Rattle.structured_fields.specs.declared.item.Member.TheVariants.{Item as Single, Inner}
use Rattle.structured_fields.specs.Named.{value_at}
use Rattle.structured_fields.specs.Strings.{holds_string}
use Rattle.message_signature.specs.Verified.{with_tag, only_one}
use Rattle.signature_laws.specs.Accepted.{HasTag, IsTheTagged}
use Rattle.signature_laws.proofs.AcceptedTests.{text_decides}

abbrev Entry : Type 0
Entry = List ℕ × Member

abbrev Tagged : Type 0
Tagged = List ℕ × InnerList

module _ (tag : List ℕ) where
  abbrev HasNone : List Entry → Type 0
  HasNone es = AllByRecursion (λ e. HasTag tag e.1 → ⊥) es

  abbrev tests : InnerList → Bool
  tests list = holds_string tag (value_at list.params (codes "tag"))

  passes : (list : InnerList) → tests list ≡ true → HasTag tag (Inner list)
  passes list h = (text_decides tag (value_at list.params (codes "tag"))).0 h

  fails : (list : InnerList) → tests list ≡ false → HasTag tag (Inner list) → ⊥
  fails list h has = true≢false (sym ((text_decides tag (value_at list.params (codes "tag"))).1 has) ∙ h)

  -- ---- one entry

  taken : (name : List ℕ) (list : InnerList) (es : List Entry) → tests list ≡ true → with_tag tag ((name, Inner list) ∷ es) ≡ (name, list) ∷ with_tag tag es
  taken name list es t = rw t refl

  pass_by : (e : Entry) (es : List Entry) → (HasTag tag e.1 → ⊥) → with_tag tag (e ∷ es) ≡ with_tag tag es
  pass_by (name, Single item) es none = refl
  pass_by (name, Inner list) es none = by (tests list) refl
    where
      by : (b : Bool) → tests list ≡ b → with_tag tag ((name, Inner list) ∷ es) ≡ with_tag tag es
      by true t = absurd (none (passes list t))
      by false t = rw t refl

  -- ---- what the answer says

  none_says : (es : List Entry) → with_tag tag es ≡ [] → HasNone es
  none_says [] h = tt
  none_says ((name, Single item) ∷ es) h = (λ has. has, none_says es h)
  none_says ((name, Inner list) ∷ es) h = by (tests list) refl (none_says es)
    where
      by : (b : Bool) → tests list ≡ b → (with_tag tag es ≡ [] → HasNone es) → HasNone ((name, Inner list) ∷ es)
      by true t again = let no : (name, list) ∷ with_tag tag es ≡ [] = sym (taken name list es t) ∙ h in absurd cc
      by false t again = (fails list t, again (sym (pass_by (name, Inner list) es (fails list t)) ∙ h))

  module _ (label : List ℕ) (one : InnerList) where
    behind : (e : Entry) (es : List Entry) → (HasTag tag e.1 → ⊥) → IsTheTagged tag es label one → IsTheTagged tag (e ∷ es) label one
    behind e es none s = record {
      before = e
          ∷ s.before;
      after = s.after;
      split = ap (λ (r : List Entry). e ∷ r) s.split;
      has = s.has;
      others = (none, s.others);
    }

    one_says : (es : List Entry) → with_tag tag es ≡ (label, one) ∷ [] → IsTheTagged tag es label one
    one_says [] h = absurd cc
    one_says ((name, Single item) ∷ es) h = behind (name, Single item) es (λ has. has) (one_says es h)
    one_says ((name, Inner list) ∷ es) h = by (tests list) refl (one_says es)
      where
        by : (b : Bool) → tests list ≡ b → (with_tag tag es ≡ (label, one) ∷ [] → IsTheTagged tag es label one)
            → IsTheTagged tag ((name, Inner list) ∷ es) label one
        by true t again =
            let first : (name, list) ∷ with_tag tag es ≡ (label, one) ∷ [] = sym (taken name list es t) ∙ h in
            let found : Tagged = (name, list) in
            let wanted : Tagged = (label, one) in
            let same : found ≡ wanted = cc in
            let lists : list ≡ one = ap (λ (t : Tagged). t.1) same in
            let none : with_tag tag es ≡ [] = cc in
            record {
              before = [];
              after = es;
              split = ap (λ (t : Tagged). let e : Entry = (t.0, Inner t.1) in e ∷ es) same;
              has = subst
                  (λ (l : InnerList). HasTag tag (Inner l)) lists (passes list t);
              others = none_says es none;
            }
        by false t again = behind (name, Inner list) es (fails list t) (again (sym (pass_by (name, Inner list) es (fails list t)) ∙ h))

  -- ---- what makes the answer

  none_made : (es : List Entry) → HasNone es → with_tag tag es ≡ []
  none_made [] none = refl
  none_made (e ∷ es) none = pass_by e es none.0 ∙ none_made es none.1

  module _ (label : List ℕ) (one : InnerList) (has : HasTag tag (Inner one)) where
    one_made : (before after : List Entry) → HasNone (before ++ after) → with_tag tag (before ++ (label, Inner one) ∷ after) ≡ (label, one) ∷ []
    one_made [] after none =
        let t : tests one ≡ true = (text_decides tag (value_at one.params (codes "tag"))).1 has in
        taken label one after t ∙ ap (λ (r : List Tagged). (label, one) ∷ r) (none_made after none)
    one_made (e ∷ before) after none = pass_by e (before ++ (label, Inner one) ∷ after) none.0 ∙ one_made before after none.1

  pub tagged_made : (es : List Entry) (label : List ℕ) (one : InnerList) → IsTheTagged tag es label one → only_one (with_tag tag es) ≡ Ok (label, one)
  tagged_made es label one s = ap (λ (r : List Entry). only_one (with_tag tag r)) s.split ∙ ap only_one (one_made label one s.has s.before s.after s.others)

  only_says : (xs : List Tagged) (x : Tagged) → only_one xs ≡ Ok x → xs ≡ x ∷ []
  only_says [] x e = absurd cc
  only_says (y ∷ []) x e = let same : y ≡ x = cc in ap (λ (z : Tagged). z ∷ []) same
  only_says (y ∷ z ∷ xs) x e = absurd cc

  pub tagged_says : (es : List Entry) (x : Tagged) → only_one (with_tag tag es) ≡ Ok x → IsTheTagged tag es x.0 x.1
  tagged_says es x e = one_says x.0 x.1 es (only_says (with_tag tag es) x e)
