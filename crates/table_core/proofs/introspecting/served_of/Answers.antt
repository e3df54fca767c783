use Rattle.std.proofs.Common.{◌∙◌, sym, ap}
use Rattle.std.specs.List.{list_all}
use Rattle.gnap_model.specs.Rights.{serves}
use Rattle.table_core.proofs.Served.{all_pass}
use Rattle.table_core.proofs.introspecting.served_of.Goals as goal

pub returns-then-serves_each : goal.returns-then-serves_each
returns-then-serves_each c =
    let served = list_all (serves c.args.names.now) in
    sym (all_pass (serves c.args.names.now) c.args.rights (ap served (sym c.as_slice.ensures) ∙ sym c.if-serves_each.ensures))
