-- Reading parameters, items and members one after the other, as the loops do.
use Rattle.std.proofs.Common.{◌≡◌, ℕ, zero, suc, ◌+◌, ◌-◌, ◌<◌, true, false, List, [], ◌∷◌, ◌++◌, length, drop, Option, Some, None, refl, sym, ◌∙◌, arith}
use Rattle.structured_fields.specs.Named.{with_value}
use Rattle.structured_fields.specs.declared.bare.Bare.{Bare}
use Rattle.structured_fields.specs.declared.fault.FieldFault.{FieldFault}
use Rattle.structured_fields.specs.declared.fault.FieldFault.TheVariants.{NotInGrammar, OutOfMemory}
use Rattle.structured_fields.specs.Reading.{Fails, begins, parameter_at, params_from, params_at, behind, item_at, is_item_end, items_from, items_at, next_at, members_from}
use Rattle.structured_fields.specs.declared.item.Item.{Item}
use Rattle.structured_fields.specs.Letters.{is_space}

pub start : (t : List ℕ) → params_from (length t - 0) [] t ≡ params_at t
unfolding params_at
start t = let e : length t - 0 ≡ length t = omega arith in rw e refl

pub stopped : (n : ℕ) (ps : List (List ℕ × Bare)) (t : List ℕ) (total : Option (List (List ℕ × Bare) × List ℕ)) → begins 59 t ≡ false
    → params_from n ps t ≡ total → total ≡ Some (ps, t)
unfolding params_from
stopped zero ps t total h e = sym e
stopped (suc n) ps t total h e = sym (rw h at e)

pub spent : (n : ℕ) (ps : List (List ℕ × Bare)) (t : List ℕ) (total : Option (List (List ℕ × Bare) × List ℕ)) → n ≡ 0 → params_from n ps t ≡ total
    → total ≡ Some (ps, t)
unfolding params_from
spent n ps t total z e = sym (rw z at e)

pub more : (len i : ℕ) (ps : List (List ℕ × Bare)) (t : List ℕ) (name : List ℕ) (v : Bare) (rest : List ℕ) (total : Option (List (List ℕ × Bare) × List ℕ))
    → i < len → begins 59 t ≡ true
    → parameter_at (drop 1 t) ≡ Some ((name, v), rest) → params_from (len - i) ps t ≡ total → params_from (len - (i + 1)) (with_value ps name v) rest ≡ total
unfolding params_from
more len i ps t name v rest total lt h g e =
    let k : len - i ≡ suc (len - (i + 1)) = omega arith in
    let one : params_from (len - i) ps t ≡ params_from (len - (i + 1)) (with_value ps name v) rest = rw (k, h, g) refl in
    sym one ∙ e

pub failed : (e : FieldFault) (len i : ℕ) (ps : List (List ℕ × Bare)) (t : List ℕ) (total : Option (List (List ℕ × Bare) × List ℕ)) → i < len
    → begins 59 t ≡ true
    → Fails e (parameter_at (drop 1 t)) → params_from (len - i) ps t ≡ total → Fails e total
unfolding params_from
failed OutOfMemory len i ps t total lt h g e = tt
failed NotInGrammar len i ps t total lt h g e =
    let k : len - i ≡ suc (len - (i + 1)) = omega arith in
    let one : params_from (len - i) ps t ≡ None = rw (k, h, g) refl in
    sym e ∙ one

-- ---- items of an inner list

abbrev Items : Type 0
Items = Option (List Item × List ℕ)

pub items_start : (t : List ℕ) → items_from (length t - 0) [] t ≡ items_at t
unfolding items_at
items_start t = let e : length t - 0 ≡ length t = omega arith in rw e refl

module _ (len i : ℕ) (held : List Item) (t u : List ℕ) (total : Items) (is : u ≡ behind is_space t) (so_far : items_from (len - i) held t ≡ total)
    (lt : i < len) where
  pub items_stopped : begins 41 u ≡ true → total ≡ Some (held, drop 1 u)
  unfolding items_from
  items_stopped h =
      let k : len - i ≡ suc (len - (i + 1)) = omega arith in
      let one : items_from (len - i) held t ≡ Some (held, drop 1 u) = rw (k, ← is, h) refl in
      sym so_far ∙ one

  module _ (h : begins 41 u ≡ false) where
    pub items_more : (x : Item) (rest : List ℕ) → item_at u ≡ Some (x, rest) → is_item_end rest ≡ true
        → items_from (len - (i + 1)) (held ++ x ∷ []) rest ≡ total
    unfolding items_from
    items_more x rest g e =
        let k : len - i ≡ suc (len - (i + 1)) = omega arith in
        let one : items_from (len - i) held t ≡ items_from (len - (i + 1)) (held ++ x ∷ []) rest = rw (k, ← is, h, g, e) refl in
        sym one ∙ so_far

    pub items_refused : (x : Item) (rest : List ℕ) → item_at u ≡ Some (x, rest) → is_item_end rest ≡ false → total ≡ None
    unfolding items_from
    items_refused x rest g e =
        let k : len - i ≡ suc (len - (i + 1)) = omega arith in
        let one : items_from (len - i) held t ≡ None = rw (k, ← is, h, g, e) refl in
        sym so_far ∙ one

    pub items_failed : (e : FieldFault) → Fails e (item_at u) → Fails e total
    unfolding items_from
    items_failed OutOfMemory g = tt
    items_failed NotInGrammar g =
        let k : len - i ≡ suc (len - (i + 1)) = omega arith in
        let one : items_from (len - i) held t ≡ None = rw (k, ← is, h, g) refl in
        sym so_far ∙ one

pub items_spent : (n : ℕ) (held : List Item) (t : List ℕ) (total : Items) → n ≡ 0 → items_from n held t ≡ total → total ≡ None
unfolding items_from
items_spent n held t total z e = sym (rw z at e)

-- ---- members

module _ {H M : Type 0} (read : List ℕ → Option (M × List ℕ)) (add : H → M → H) where
  pub members_start : (held : H) (t : List ℕ) → members_from read add (length t - 0) held t ≡ members_from read add (length t) held t
  members_start held t = let e : length t - 0 ≡ length t = omega arith in rw e refl

  module _ (len i : ℕ) (held : H) (t : List ℕ) (total : Option H) (lt : i < len) (so_far : members_from read add (len - i) held t ≡ total) where
    pub members_failed : (e : FieldFault) → Fails e (read t) → Fails e total
    unfolding members_from
    members_failed OutOfMemory g = tt
    members_failed NotInGrammar g =
        let k : len - i ≡ suc (len - (i + 1)) = omega arith in
        let one : members_from read add (len - i) held t ≡ None = rw (k, g) refl in
        sym so_far ∙ one

    module _ (m : M) (rest : List ℕ) (got : read t ≡ Some (m, rest)) where
      pub members_more : (u : List ℕ) → next_at rest ≡ Some (Some u) → members_from read add (len - (i + 1)) (add held m) u ≡ total
      unfolding members_from
      members_more u e =
          let k : len - i ≡ suc (len - (i + 1)) = omega arith in
          let one : members_from read add (len - i) held t ≡ members_from read add (len - (i + 1)) (add held m) u = rw (k, got, e) refl in
          sym one ∙ so_far

      pub members_done : next_at rest ≡ Some None → total ≡ Some (add held m)
      unfolding members_from
      members_done e =
          let k : len - i ≡ suc (len - (i + 1)) = omega arith in
          let one : members_from read add (len - i) held t ≡ Some (add held m) = rw (k, got, e) refl in
          sym so_far ∙ one

      pub members_refused : (e : FieldFault) → Fails e (next_at rest) → Fails e total
      unfolding members_from
      members_refused OutOfMemory g = tt
      members_refused NotInGrammar g =
          let k : len - i ≡ suc (len - (i + 1)) = omega arith in
          let one : members_from read add (len - i) held t ≡ None = rw (k, got, g) refl in
          sym so_far ∙ one

  pub members_spent : (n : ℕ) (held : H) (t : List ℕ) (total : Option H) → n ≡ 0 → members_from read add n held t ≡ total → total ≡ None
  unfolding members_from
  members_spent n held t total z e = sym (rw z at e)
