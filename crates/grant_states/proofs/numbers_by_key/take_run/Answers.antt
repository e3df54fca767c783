use Rattle.std.proofs.Common.{arith, ap, sym, subst, refl, ◌∙◌, ◌<◌, length, List}
use Rattle.std.specs.List.Sorted.{IsNonDecreasingBy}
use Rattle.gnap_tables.proofs.Lists.{HasItem}
use Rattle.grant_states.specs.declared.numbers_by_key.Listed.{Listed}
use Rattle.grant_states.specs.Listed.{key_of, under, IsStartOf}
use Rattle.grant_states.proofs.ListedNumbers.{item_left_in, none_under, other_kept, start_stays, taken_in_order}
use Rattle.grant_states.proofs.numbers_by_key.take_run.Goals as goal

pub start_of-first-requires : goal.start_of-first-requires
start_of-first-requires c = subst (IsNonDecreasingBy key_of) (sym c.as_slice.ensures.value) c.requires

pub loop-listed-init : goal.loop-listed-init
loop-listed-init c = (
  c.requires,
  subst (λ (os : List Listed). IsStartOf c.args.key os c.start_of-first.result) c.as_slice.ensures.value c.start_of-first.ensures.start,
  λ one h other. h,
  λ one h. h,
  omega arith,
  refl,
)

pub loop-listed-preserved : goal.loop-listed-preserved
loop-listed-preserved c =
    let items : List Listed = c.loop-listed.listed.items in
    let first = c.start_of-first.result in
    let inside : first < length items = omega (arith, c.loop-listed-test.true, c.len.ensures) in
    let left = c.remove-gone.ensures.items in (
      subst (IsNonDecreasingBy key_of) (sym left) (taken_in_order key_of items first c.loop-listed.invariant.0),
      subst (λ (os : List Listed). IsStartOf c.args.key os first) (sym left) (start_stays items first c.args.key c.loop-listed.invariant.1 inside),
      λ one h other. subst (λ (os : List Listed). HasItem os one) (sym left)
          (other_kept items first c.args.key c.index.result.now one inside (ap key_of (sym c.index.ensures) ∙ c.if-index-key.true) other
          (c.loop-listed.invariant.2 one h other)),
      λ one h. c.loop-listed.invariant.3 one (item_left_in items first one (subst (λ (os : List Listed). HasItem os one) left h)),
      omega (arith, c.remove-gone.ensures.len, c.loop-listed.invariant.4),
      c.remove-gone.ensures.capacity ∙ c.loop-listed.invariant.5,
    )

pub returns-else-index-key-clause-gone : goal.returns-else-index-key-clause-gone
returns-else-index-key-clause-gone c = none_under c.loop-listed.listed.items c.start_of-first.result c.args.key c.index.result.now
    c.loop-listed.invariant.0 c.loop-listed.invariant.1
    (λ inside is. c.if-index-key.false (ap key_of c.index.ensures ∙ is))

pub returns-after-loop-listed-clause-gone : goal.returns-after-loop-listed-clause-gone
returns-after-loop-listed-clause-gone c = none_under c.loop-listed.listed.items c.start_of-first.result c.args.key (under 0 0) c.loop-listed.invariant.0
    c.loop-listed.invariant.1
    (λ inside is. omega (arith, inside, c.loop-listed-test.false, c.len.ensures))
