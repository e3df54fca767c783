use Rattle.std.proofs.Common.{List, take, get_or, refl, ap, sym, subst, ◌∙◌, ◌<◌, arith}
use Rattle.std.specs.Prelude.{not, filter}
use Rattle.std.proofs.lemmas.List.{take_all, take_more}
use Rattle.std.proofs.lemmas.List.Kept.{AllPairs-filter}
use Rattle.grant_states.specs.declared.numbers_by_key.Listed.{Listed}
use Rattle.token_manager.specs.declared.token_table.TokenPlace.{TokenPlace}
use Rattle.token_manager.specs.Tokens.{is_among}
use Rattle.token_manager.proofs.TokenLemmas.{AreInOrder, one_more, none_yet}
use Rattle.token_manager.proofs.token_table.take_out_all.Goals as goal

pub loop-one-init : goal.loop-one-init
loop-one-init c = (none_yet c.args.places.now.items c.args.grant, omega arith, refl, c.requires.counted)

pub take_out-left-requires-clause-order : goal.take_out-left-requires-clause-order
take_out-left-requires-clause-order c = subst AreInOrder (sym c.loop-one.invariant.0)
    (AllPairs-filter (λ (a b : TokenPlace). a.serial < b.serial)
    (λ (place : TokenPlace). not (is_among c.args.grant (take c.loop-one.one-index c.args.owned.now) place)) c.args.places.now.items c.requires.order)

pub loop-one-preserved : goal.loop-one-preserved
loop-one-preserved c =
    let places = c.args.places.now.items in
    let k = c.loop-one.one-index in
    let owned = c.args.owned.now in (
      c.take_out-left.ensures.items ∙ ap (filter _) c.loop-one.invariant.0 ∙ one_more places c.args.grant (take k owned) (get_or owned k _)
          ∙ ap (λ (os : List Listed). filter (λ (place : TokenPlace). not (is_among c.args.grant os place)) places)
          (sym (take_more owned k _ c.loop-one-test.true)),
      omega (arith, c.take_out-left.ensures.fewer, c.loop-one.invariant.1),
      c.take_out-left.ensures.capacity ∙ c.loop-one.invariant.2,
      c.take_out-left.ensures.counted,
    )

pub returns-clause-items : goal.returns-clause-items
returns-clause-items c = c.loop-one.invariant.0
    ∙ ap (λ (os : List Listed). filter (λ (place : TokenPlace). not (is_among c.args.grant os place)) c.args.places.now.items)
    (take_all c.loop-one.one-index c.args.owned.now (omega (arith, c.loop-one-test.false)))

pub returns-clause-fewer : goal.returns-clause-fewer
returns-clause-fewer c = c.loop-one.invariant.1

pub returns-clause-counted : goal.returns-clause-counted
returns-clause-counted c = c.loop-one.invariant.3
