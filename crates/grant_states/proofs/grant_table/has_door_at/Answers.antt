use Rattle.std.proofs.Common.{◌∙◌, ap, sym}
use Rattle.grant_states.specs.Listed.{where_some}
use Rattle.grant_states.specs.Grants.{is_door_of}
use Rattle.grant_states.proofs.Got.{got}
use Rattle.grant_states.proofs.grant_table.has_door_at.Goals as goal

pub returns-in-Some : goal.returns-in-Some
returns-in-Some c = c.has_door.ensures ∙ sym (ap (where_some (is_door_of c.args.door.now))
    (got c.args.places.now c.args.at c.in-Some.place.now c.in-Some.ensures.lookup.1 c.in-Some.ensures.lookup.3.0))
