use Rattle.std.proofs.Common.{◌∙◌}
use Rattle.grant_states.proofs.GrantLemmas.{current_at}
use Rattle.grant_states.proofs.grant_table.is_current.Goals as goal

pub returns : goal.returns
returns c = c.has_door_at.ensures ∙ current_at c.args.places.now c.place_of-at.result c.args.door.now c.requires c.place_of-at.ensures
