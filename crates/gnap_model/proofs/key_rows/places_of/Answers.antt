use Rattle.std.proofs.Common.{rules, ◌≡◌, ◌<◌, length, slice_get, sym, ap, ◌∙◌}
use Rattle.std.specs.declared.option.Option.TheVariants.{Some}
use Rattle.std.proofs.lemmas.Option.{slice_get-get_or}
use Rattle.gnap_model.proofs.KeyPlaces.{one_more}
use Rattle.gnap_model.proofs.key_rows.places_of.Goals as goal

pub loop-i-preserved : goal.loop-i-preserved
loop-i-preserved c =
    let row = c.index-rows-i.result in
    let within : c.loop-i.i < length c.args.rows.now = search rules in
    let at : slice_get c.args.rows.now c.loop-i.i ≡ Some row = slice_get-get_or c.args.rows.now c.loop-i.i row within ∙ ap Some (sym c.index-rows-i.is) in
    one_more c.args.rows.now c.loop-i.i row c.as_slice.result.now c.loop-i.places c.note_place.new.places
    (c.as_slice.ensures.value ∙ sym (ap (λ r. r.id) c.index-rows-i.is)) at c.loop-i.invariant c.in_ok-note_place.ensures
