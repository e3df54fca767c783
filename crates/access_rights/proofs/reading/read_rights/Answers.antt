use Rattle.std.proofs.Common.{sym}
use Rattle.serde_json.specs.View.{view}
use Rattle.json_objects.proofs.Items.{array_bodies}
use Rattle.access_rights.proofs.reading.read_rights.Goals as goal

pub each_right-requires : goal.each_right-requires
each_right-requires c = array_bodies (view c.args.value.now) _ c.requires (sym c.in-Some.ensures)
