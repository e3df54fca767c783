use Rattle.std.proofs.Common.{◌≡◌, ◌∙◌, ◌⊎◌, inl, inr, ℕ, ◌≤◌, List, All, length, get_or, ap, sym, subst, arith}
use Rattle.std.specs.Prelude.{Option, Some, None, IfNone}
use Rattle.std.specs.Global.{Vec}
use Rattle.gnap_io.specs.MemoryForms.{GearForm}
use Rattle.gnap_io.specs.MemoryWorlds.{AreWithin}
use Rattle.gnap_io.proofs.NamedLemmas.{place-found}
use Rattle.gnap_io.proofs.memory_world.place_to_start.Goals as goal
use Rattle.gnap_io.proofs.memory_world.place_to_start.Goals.{else-len-n-via-then-len-n+else-all_within, else-len-n-via-else-len-n}

-- what holds of the gears that were found, whatever they are called
of-found : (P : Vec GearForm → Type 0) (found : Option (Vec GearForm)) (one : Vec GearForm) → found ≡ Some one → P one
    → (gears : Vec GearForm) → found ≡ Some gears → P gears
of-found P found one is holds gears same =
    let both : Some one ≡ Some gears = sym is ∙ same in
    let equal : one ≡ gears = cc in
    subst P equal holds

-- anything holds of gears that weren't found
of-none : (A : Type 0) (P : Vec GearForm → Type 0) (found : Option (Vec GearForm)) (result : Option ℕ) → A ⊎ (found ≡ None)
    → IfNone result (A ⊎ ((gears : Vec GearForm) → found ≡ Some gears → P gears))
of-none A P found (Some place) cause = tt
of-none A P found None (inl a) = inl a
of-none A P found None (inr none) = inr (λ gears same. let never : None ≡ Some gears = sym none ∙ same in cc)

pub returns-in_err-place-clause-none : goal.returns-in_err-place-clause-none
returns-in_err-place-clause-none c =
    of-none _ (λ gears. ¬ AreWithin c.args.n c.args.quota gears.items) _ c.from_residual.result c.in_err-place.ensures.none

pub returns-then-all_within-clause-some : goal.returns-then-all_within-clause-some
returns-then-all_within-clause-some c =
    let place = c.in_ok-place.ensures.some in
    let one = c.index-named-place in
    let found = place-found c.args.named.now c.args.address.now c.in_ok-place.place one.result place.1 one.is in
    let items = c.as_slice.ensures.value in (
      place.0,
      place.1,
      of-found (λ gears. AreWithin c.args.n c.args.quota gears.items) _ _
          (found ∙ ap (λ (x : List ℕ × Vec GearForm). Some x.1) one.is) (
            omega (arith, ap length items),
            subst (All (λ gear. length gear.waiting ≤ c.args.quota)) items (c.all_within.ensures.0 c.if-all_within.true),
          ),
    )

pub returns-else-len-n-clause-none : goal.returns-else-len-n-clause-none
returns-else-len-n-clause-none c =
    let one = c.index-named-place in
    let gears = (get_or c.args.named.now c.in_ok-place.place one.result).1 in
    let found = place-found c.args.named.now c.args.address.now c.in_ok-place.place one.result c.in_ok-place.ensures.some.1 one.is in
    let not_within : ¬ AreWithin c.args.n c.args.quota gears.items = elim c.else-len-n.branch [
      | else-len-n-via-then-len-n+else-all_within w ↦ λ within.
          let yes = w.all_within.ensures.1 (subst (All (λ gear. length gear.waiting ≤ c.args.quota)) (sym w.as_slice.ensures.value) within.1) in
          let no = w.if-all_within.false in
          cc
      | else-len-n-via-else-len-n w ↦ λ within. let long = gears.ok in absurd (omega (arith, long, within.0))
    ] in
    inr (of-found (λ gears. ¬ AreWithin c.args.n c.args.quota gears.items) _ _ (found ∙ ap (λ (x : List ℕ × Vec GearForm). Some x.1) one.is) not_within)
