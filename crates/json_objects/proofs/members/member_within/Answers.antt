use Rattle.serde_json.specs.Read.{max_depth}
use Rattle.serde_json.specs.View.{view}
use Rattle.json_objects.proofs.Depths.{member_seen}
use Rattle.json_objects.proofs.members.member_within.Goals as goal

pub returns-clause-shallow : goal.returns-clause-shallow
returns-clause-shallow c = member_seen c.get.result c.args.name.now (view c.args.value.now) max_depth c.requires c.get.ensures
