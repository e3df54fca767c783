use Rattle.std.proofs.Common.{sym}
use Rattle.serde_json.specs.View.{view}
use Rattle.json_objects.proofs.Items.{array_bodies}
use Rattle.reply_readers.proofs.tokens.tokens_in.Goals as goal

pub tokens_from-requires : goal.tokens_from-requires
tokens_from-requires c = array_bodies (view c.args.value.now) _ c.requires (sym c.in-Some.ensures)
