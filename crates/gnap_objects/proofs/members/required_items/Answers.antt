use Rattle.std.proofs.Common.{sym}
use Rattle.serde_json.specs.View.{view}
use Rattle.json_objects.proofs.Items.{array_bodies}
use Rattle.gnap_objects.proofs.members.required_items.Goals as goal

pub returns-in-Some-clause-bodies : goal.returns-in-Some-clause-bodies
returns-in-Some-clause-bodies c = λ body. array_bodies (view c.in_ok-member.member.now) _ (c.in_ok-member.ensures.body body) (sym c.in-Some.ensures)
