use Rattle.std.proofs.Common.{◌<◌, length, ap, arith}
use Rattle.token_manager.specs.Tokens.{StoredTokens}
use Rattle.token_manager.proofs.TokenLemmas.{ascending_slice, place_marked, marked_places, place_past, listed_marked, lasting_set}
use Rattle.token_manager.proofs.token_table.TokenTable.revoke.Goals as goal

pub place_of-at-requires : goal.place_of-at-requires
place_of-at-requires c = ascending_slice c.as_slice.result.now c.self.inside.places.items c.as_slice.ensures.value c.self.invariant.0

pub invariant_of-self : goal.invariant_of-self
invariant_of-self c = (
  marked_places c.as_slice.result.now c.self.inside.places.items c.place_of-at.result c.args.serial c.index_mut-place.result.now c.mark.new.place
      c.as_slice.ensures.value c.self.invariant.0 c.place_of-at.ensures
      (omega (arith, c.if-at-len.true, c.len.ensures)) c.index_mut-place.ensures.value c.mark.ensures,
  listed_marked c.self.inside.serials.listed c.self.inside.places.items c.place_of-at.result c.args.serial c.index_mut-place.result.now c.mark.new.place
      c.self.invariant.1 (omega (arith, c.if-at-len.true, c.len.ensures)) c.index_mut-place.ensures.value c.mark.ensures,
  (let places = c.self.inside.places.items in
      let at = c.place_of-at.result in
      let inside : at < length places = omega (arith, c.if-at-len.true, c.len.ensures) in
      (lasting_set places at c.self.inside.swept c.self.inside.lasting c.one_lasting-before.result c.one_lasting-after.result c.index_mut-place.result.now
      c.mark.new.place inside c.index_mut-place.ensures.value c.self.invariant.2
      c.one_lasting-before.ensures c.one_lasting-after.ensures).1),
)

pub returns-then-at-len-clause-rows : goal.returns-then-at-len-clause-rows
returns-then-at-len-clause-rows c =
    place_marked c.as_slice.result.now c.self.inside.places.items c.args.self.now.rows c.place_of-at.result c.args.serial c.index_mut-place.result.now
    c.mark.new.place c.as_slice.ensures.value (ap (λ (s : StoredTokens). s.rows) c.self.view_is) c.self.invariant.0 c.place_of-at.ensures
    (omega (arith, c.if-at-len.true, c.len.ensures)) c.index_mut-place.ensures.value c.mark.ensures

pub returns-else-at-len-clause-rows : goal.returns-else-at-len-clause-rows
returns-else-at-len-clause-rows c =
    place_past c.as_slice.result.now c.self.inside.places.items c.args.self.now.rows c.place_of-at.result c.args.serial c.as_slice.ensures.value
    (ap (λ (s : StoredTokens). s.rows) c.self.view_is) c.self.invariant.0 c.place_of-at.ensures
    (omega (arith, c.if-at-len.false, c.len.ensures))
