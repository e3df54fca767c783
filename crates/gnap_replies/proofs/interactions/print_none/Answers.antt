use Rattle.std.proofs.Common.{codes, [], None, refl}
use Rattle.json.specs.Print.{escape_byte}
use Rattle.gnap_replies.specs.Interactions.{decided_fields}
use Rattle.gnap_replies.proofs.Printing.{first_name, has_object}
use Rattle.gnap_replies.proofs.interactions.print_none.Goals as goal

pub returns : goal.returns
unfolding escape_byte
returns c p printed = has_object c.end.new.self p (decided_fields [] None) refl
    (c.end.ensures _ (c.value.ensures _ (first_name c.begin.new.self p (codes "finish") (c.begin.ensures p printed))))
