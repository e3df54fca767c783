use Rattle.std.proofs.Common.{◌≡◌, rules}
use Rattle.std.specs.declared.option.Option.TheVariants.{None}
use Rattle.gnap_model.specs.KeyPlaces.{place_in}
use Rattle.gnap_model.proofs.KeyPlaces.{noted}
use Rattle.gnap_model.proofs.key_rows.note_place.Goals as goal

pub returns-in_ok-insert : goal.returns-in_ok-insert
returns-in_ok-insert c =
    let none : place_in c.args.places.now c.args.id.now ≡ None = search rules in
    noted c.args.places.now c.insert.new.self c.in_ok-from_slice.field-0.items c.args.id.now c.args.place c.in_ok-from_slice.ensures.items none
    c.in_ok-insert.ensures.updates
