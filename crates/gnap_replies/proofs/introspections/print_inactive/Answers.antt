use Rattle.json.specs.Print.{escape_byte}
use Rattle.gnap_replies.proofs.introspections.print_inactive.Goals as goal

pub returns : goal.returns
unfolding escape_byte
returns c p printed = c.value.ensures p printed
