use Rattle.std.proofs.Common.{sym}
use Rattle.serde_json.specs.View.{view}
use Rattle.json_objects.proofs.Items.{array_bodies}
use Rattle.gnap_objects.proofs.token_requests.token_requests_of.Goals as goal

pub token_requests_from-requires : goal.token_requests_from-requires
token_requests_from-requires c = array_bodies (view c.in-Some.tokens.now) _ (c.in-Some.ensures.body c.requires) (sym c.in-Some-as_array.ensures)
