use Rattle.std.proofs.Common.{◌∙◌, ◌+◌, ap, Option}
use Rattle.gnap_model.specs.Common.{Text}
use Rattle.gnap_model.specs.Limits.{wait}
use Rattle.gnap_tables.specs.declared.rows.Round.{Round}
use Rattle.table_core.specs.Askings.{begun_round, asking_reply}
use Rattle.grant_states.specs.Grants.{in_round}
use Rattle.table_core.proofs.OpeningPlans.{opened_row, asking_is}
use Rattle.table_core.proofs.beginning.open_asking.Goals as goal

pub returns : goal.returns
returns c =
    let entering = c.args.entering.now in
    let o = c.args.opening in
    let request = c.args.request.now in
    let modes = c.args.modes.now in
    let asking = c.in_ok-asking.asking in
    let asked = c.in_ok-asking.ensures in
    let door = c.value-door.result in
    let begun = begun_round entering o.grant o.end modes in
    let pending = c.pend.ensures ∙ ap (in_round asking.round) (c.as_mut.ensures.value ∙ c.in_ok-row.ensures)
    ∙ ap (λ (round : Round). in_round round (opened_row o request door (entering.supply.moment + wait))) asked.round in
    asking_is entering o request modes asking.reply asking.drawn _ door c.new.result c.requires.next c.requires.numbers
    (asked.reply ∙ ap (λ (instance : Option Text). asking_reply entering door begun instance) c.in_ok-instance.ensures)
    asked.drawn c.new.ensures pending c.value-door.ensures
