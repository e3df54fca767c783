use Rattle.std.proofs.Common.{◌≡◌, ◌∙◌, false, sym}
use Rattle.std.specs.List.{list_any}
use Rattle.std.proofs.lemmas.Bool.{and_left, ne_eqb}
use Rattle.gnap_history.specs.Holders.{is_held_by_other}
use Rattle.gnap_history.proofs.Holders.{door_of_another}
use Rattle.gnap_history.proofs.presented_values.names.Goals as goal

pub returns-then-not-had_by_several : goal.returns-then-not-had_by_several
returns-then-not-had_by_several c =
    let none : list_any (is_held_by_other c.args.holder c.args.value.now) c.args.notes.now ≡ false = sym c.requires ∙ c.if-not-had_by_several.true in
    sym (and_left _ _ (door_of_another c.args.notes.now c.args.holder c.args.grant c.args.value.now none
    (ne_eqb c.args.grant c.args.holder c.if-grant-holder.true)))
