use Rattle.std.proofs.Common.{codes}
use Rattle.json.specs.Print.{escape_byte}
use Rattle.gnap_replies.proofs.Printing.{name_and_value}
use Rattle.gnap_replies.proofs.tokens.print_flags.Goals as goal

pub returns-then-bearer : goal.returns-then-bearer
unfolding escape_byte
returns-then-bearer c p printed = rw c.if-bearer.true (name_and_value c.value.new.self p (codes "flags") (codes "[\"bearer\"]") (c.value.ensures p printed))
