use Rattle.std.proofs.Common.{map, ap, sym, subst, ◌∙◌, arith, List}
use Rattle.std.specs.List.{count_by}
use Rattle.gnap_tables.specs.Tables.{drop_token}
use Rattle.token_manager.specs.declared.token_table.TokenPlace.{TokenPlace}
use Rattle.token_manager.specs.Tokens.{StoredTokens, AreTokenPlaces, AreListed, token_in, is_lasting}
use Rattle.grant_states.proofs.Items.{same_place}
use Rattle.token_manager.proofs.TokenLemmas.{ascending_slice, place_removed, none_removed, listed_removed, listed_without, lasting_removed}
use Rattle.token_manager.proofs.token_table.TokenTable.retire.Goals as goal
use Rattle.token_manager.proofs.token_table.TokenTable.retire.Goals.{else-at-len-via-then-at-len+else-index-serial, else-at-len-via-else-at-len}

pub place_of-at-requires : goal.place_of-at-requires
place_of-at-requires c = ascending_slice c.as_slice.result.now c.self.inside.places.items c.as_slice.ensures.value c.self.invariant.0

pub invariant_of-self : goal.invariant_of-self
invariant_of-self c =
    let held = place_removed c.as_slice.result.now c.self.inside.places.items c.place_of-at.result c.args.serial c.index.result.now c.as_slice.ensures.value
    c.self.invariant.0 (omega (arith, c.if-at-len.true, c.len.ensures)) c.index.ensures c.if-index-serial.true in (
      subst (λ (ps : List TokenPlace). AreTokenPlaces ps) (sym c.remove-gone.ensures.items) held.1,
      subst (AreListed c.unlist.new.self.listed) (sym c.remove-gone.ensures.items)
          (listed_without c.self.inside.serials.listed c.unlist.new.self.listed c.self.inside.places.items c.place_of-at.result c.remove-gone.result
          c.self.invariant.0 (omega (arith, c.if-at-len.true, c.len.ensures)) c.remove-gone.ensures.value
          (listed_removed c.self.inside.serials.listed c.self.inside.places.items c.place_of-at.result c.args.serial c.index.result.now c.self.invariant.0
          c.self.invariant.1 (omega (arith, c.if-at-len.true, c.len.ensures)) c.index.ensures c.if-index-serial.true)
          c.unlist.ensures.kept),
      (lasting_removed c.self.inside.places.items c.place_of-at.result c.self.inside.swept c.self.inside.lasting c.one_lasting-one.result
          c.remove-gone.result (omega (arith, c.if-at-len.true, c.len.ensures)) c.remove-gone.ensures.value c.self.invariant.2
          c.one_lasting-one.ensures).1
          ∙ ap (count_by (is_lasting c.self.inside.swept)) (sym c.remove-gone.ensures.items),
    )

pub returns-then-index-serial-clause-rows : goal.returns-then-index-serial-clause-rows
returns-then-index-serial-clause-rows c =
    let held = place_removed c.as_slice.result.now c.self.inside.places.items c.place_of-at.result c.args.serial c.index.result.now c.as_slice.ensures.value
    c.self.invariant.0 (omega (arith, c.if-at-len.true, c.len.ensures)) c.index.ensures c.if-index-serial.true in
    ap (map token_in) c.remove-gone.ensures.items ∙ held.0 ∙ ap (drop_token c.args.serial) (ap (λ (s : StoredTokens). s.rows) c.self.view_is)

pub returns-else-at-len-clause-rows : goal.returns-else-at-len-clause-rows
returns-else-at-len-clause-rows c =
    none_removed c.as_slice.result.now c.self.inside.places.items c.args.self.now.rows c.place_of-at.result c.args.serial c.as_slice.ensures.value
    (ap (λ (s : StoredTokens). s.rows) c.self.view_is) c.self.invariant.0 c.place_of-at.ensures
    (λ old inside is mine. elim c.else-at-len.branch [
      | else-at-len-via-then-at-len+else-index-serial w ↦ w.if-index-serial.false
          (ap (λ (p : TokenPlace). p.serial) (same_place c.self.inside.places.items c.place_of-at.result w.index.result.now old inside w.index.ensures is)
          ∙ mine)
      | else-at-len-via-else-at-len w ↦ omega (arith, w.if-at-len.false, c.len.ensures, inside)
    ])
