use Rattle.std.proofs.Common.{◌≡◌, ◌∙◌, false, sym}
use Rattle.std.specs.List.{list_any}
use Rattle.std.proofs.lemmas.Bool.{ne_eqb}
use Rattle.gnap_history.specs.Interactions.{goes_by, is_round_elsewhere}
use Rattle.gnap_history.proofs.Interactions.{no_round_of_another}
use Rattle.gnap_history.proofs.live_rounds.live_round_with.Goals as goal

pub returns-then-not-is_shared : goal.returns-then-not-is_shared
returns-then-not-is_shared c =
    let none : list_any (is_round_elsewhere c.args.holder (goes_by c.args.name)) c.args.notes.now ≡ false = sym c.requires ∙ c.if-not-is_shared.true in
    sym (no_round_of_another c.args.notes.now c.args.now c.args.holder c.args.grant (goes_by c.args.name) none
    (ne_eqb c.args.grant c.args.holder c.if-grant-holder.true))
