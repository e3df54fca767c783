use Rattle.std.proofs.Common.{List, take, get_or, ap, sym, subst, ◌∙◌, ◌<◌}
use Rattle.std.specs.Prelude.{not, filter}
use Rattle.std.specs.List.{count_by}
use Rattle.std.proofs.lemmas.List.{take_more}
use Rattle.gnap_tables.proofs.Lists.{HasItem}
use Rattle.grant_states.specs.declared.numbers_by_key.Listed.{Listed}
use Rattle.token_manager.specs.declared.token_table.TokenPlace.{TokenPlace}
use Rattle.token_manager.specs.Tokens.{is_among, is_lasting}
use Rattle.token_manager.proofs.TokenLemmas.{none_yet, one_less, above_former, within_last}
use Rattle.token_manager.proofs.token_table.lasting_without.Goals as goal

pub loop-one-init : goal.loop-one-init
loop-one-init c = (c.requires.counted ∙ ap (count_by (is_lasting c.args.moment)) (none_yet c.args.places.now c.args.grant), λ one h. absurd h)

pub overflow_sub-left : goal.overflow_sub-left
overflow_sub-left c =
    let k = c.loop-one.one-index in
    let owned = c.args.owned.now in
    (one_less c.args.places.now c.args.grant c.args.moment c.loop-one.left c.own_lasting-left.result (take k owned) (get_or owned k _)
    (λ former h. above_former c.loop-one.former (get_or owned k _).number former.number (c.loop-one.invariant.1 former h) c.if-is_within.ensures)
    c.loop-one.invariant.0 c.own_lasting-left.ensures).0

pub loop-one-preserved : goal.loop-one-preserved
loop-one-preserved c =
    let k = c.loop-one.one-index in
    let owned = c.args.owned.now in
    let above : (former : Listed) → HasItem (take k owned) former → former.number < (get_or owned k _).number =
    λ former h. above_former c.loop-one.former (get_or owned k _).number former.number (c.loop-one.invariant.1 former h) c.if-is_within.ensures in
    let more = take_more owned k _ c.loop-one-test.true in (
      (one_less c.args.places.now c.args.grant c.args.moment c.loop-one.left c.own_lasting-left.result (take k owned) (get_or owned k _) above
          c.loop-one.invariant.0 c.own_lasting-left.ensures).1
          ∙ ap (λ (os : List Listed). count_by (is_lasting c.args.moment)
          (filter (λ (place : TokenPlace). not (is_among c.args.grant os place)) c.args.places.now)) (sym more),
      λ one h. within_last (take k owned) (get_or owned k _) above one (subst (λ (os : List Listed). HasItem os one) more h),
    )
