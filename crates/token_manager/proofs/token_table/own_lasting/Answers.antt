use Rattle.std.proofs.Common.{ap, sym, ◌∙◌, refl, arith}
use Rattle.grant_states.proofs.Items.{same_place}
use Rattle.grant_states.proofs.Placed.{ascending_keys}
use Rattle.token_manager.specs.declared.token_table.TokenPlace.{TokenPlace}
use Rattle.token_manager.proofs.TokenLemmas.{none_out, own_counted, none_own}
use Rattle.token_manager.proofs.token_table.own_lasting.Goals as goal
use Rattle.token_manager.proofs.token_table.own_lasting.Goals.{else-at-places-via-then-at-places+then-places-at+else-places-at-2, else-at-places-via-then-at-places+else-places-at, else-at-places-via-else-at-places}

pub place_of-at-requires : goal.place_of-at-requires
place_of-at-requires c = ascending_keys (λ (place : TokenPlace). place.serial) c.args.places.now c.requires

pub returns-then-places-at-2 : goal.returns-then-places-at-2
returns-then-places-at-2 c =
    let places = c.args.places.now in
    let at = c.place_of-at.result in
    let place = c.index-places-at-then-places-at-2.result in
    let is = c.index-places-at-then-places-at-2.is in
    own_counted places at c.args.grant c.args.serial c.args.moment c.one_lasting.result place c.requires c.if-at-places.true is
    (ap (λ (p : TokenPlace). p.serial) (same_place places at place c.index-places-at.result c.if-at-places.true is c.index-places-at.is ∙ c.index-places-at.is)
    ∙ c.if-places-at.true)
    (ap (λ (p : TokenPlace). p.grant)
    (same_place places at place c.index-places-at-then-places-at.result c.if-at-places.true is c.index-places-at-then-places-at.is
    ∙ c.index-places-at-then-places-at.is) ∙ c.if-places-at-2.true)
    c.one_lasting.ensures

pub returns-else-at-places : goal.returns-else-at-places
returns-else-at-places c =
    let places = c.args.places.now in
    let at = c.place_of-at.result in
    none_own places c.args.grant c.args.serial c.args.moment (none_out places places at c.args.grant c.args.serial refl c.requires c.place_of-at.ensures
    (λ old inside is mine its. elim c.else-at-places.branch [
      | else-at-places-via-then-at-places+then-places-at+else-places-at-2 w ↦ w.if-places-at-2.false
          (ap (λ (p : TokenPlace). p.grant)
          (sym w.index-places-at-then-places-at.is
          ∙ same_place places at w.index-places-at-then-places-at.result old inside w.index-places-at-then-places-at.is is) ∙ its)
      | else-at-places-via-then-at-places+else-places-at w ↦ w.if-places-at.false
          (ap (λ (p : TokenPlace). p.serial) (sym w.index-places-at.is ∙ same_place places at w.index-places-at.result old inside w.index-places-at.is is)
          ∙ mine)
      | else-at-places-via-else-at-places w ↦ let past = w.if-at-places.false in omega (arith, past, inside)
    ]))
