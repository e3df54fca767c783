use Rattle.std.proofs.Common.{ap, sym, subst, length, ◌∙◌, ◌<◌, arith}
use Rattle.token_manager.specs.declared.token_table.TokenPlace.{TokenPlace}
use Rattle.grant_states.proofs.Items.{same_place}
use Rattle.grant_states.proofs.Placed.{ascending_keys}
use Rattle.token_manager.proofs.TokenLemmas.{AreInOrder, taken_out, none_out}
use Rattle.token_manager.proofs.token_table.take_out.Goals as goal
use Rattle.token_manager.proofs.token_table.take_out.Goals.{else-at-len-via-then-at-len+then-index-serial+else-index-grant, else-at-len-via-then-at-len+else-index-serial, else-at-len-via-else-at-len}

pub place_of-at-requires : goal.place_of-at-requires
place_of-at-requires c = ascending_keys (λ (place : TokenPlace). place.serial) c.as_slice.result.now
    (subst AreInOrder (sym c.as_slice.ensures.value) c.requires.order)

pub returns-then-index-grant-clause-items : goal.returns-then-index-grant-clause-items
returns-then-index-grant-clause-items c =
    let inside : c.place_of-at.result < length c.args.places.now.items = omega (arith, c.if-at-len.true, c.len.ensures) in
    c.remove-gone.ensures.items ∙ taken_out c.args.places.now.items c.place_of-at.result c.args.grant c.args.serial c.index.result.now c.requires.order inside
    c.index.ensures c.if-index-serial.true
    (ap (λ (place : TokenPlace). place.grant)
    (same_place c.args.places.now.items c.place_of-at.result c.index.result.now c.index-then-index-serial.result.now inside c.index.ensures
    c.index-then-index-serial.ensures) ∙ c.if-index-grant.true)

pub returns-else-at-len-clause-items : goal.returns-else-at-len-clause-items
returns-else-at-len-clause-items c =
    none_out c.as_slice.result.now c.args.places.now.items c.place_of-at.result c.args.grant c.args.serial c.as_slice.ensures.value c.requires.order
    c.place_of-at.ensures
    (λ old inside is mine its. elim c.else-at-len.branch [
      | else-at-len-via-then-at-len+then-index-serial+else-index-grant w ↦ w.if-index-grant.false
          (ap (λ (place : TokenPlace). place.grant)
          (same_place c.args.places.now.items c.place_of-at.result w.index-then-index-serial.result.now old inside w.index-then-index-serial.ensures is) ∙ its)
      | else-at-len-via-then-at-len+else-index-serial w ↦ w.if-index-serial.false
          (ap (λ (place : TokenPlace). place.serial) (same_place c.args.places.now.items c.place_of-at.result w.index.result.now old inside w.index.ensures is)
          ∙ mine)
      | else-at-len-via-else-at-len w ↦ omega (arith, w.if-at-len.false, c.len.ensures, inside)
    ])
