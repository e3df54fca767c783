use Rattle.std.proofs.Common.{map}
use Rattle.access_rights.specs.Printing.{right_data}
use Rattle.gnap_replies.proofs.Printing.{has_array}
use Rattle.gnap_replies.proofs.rights.print_rights.Goals as goal

pub returns-then-are_references : goal.returns-then-are_references
returns-then-are_references c p printed =
    let begun = c.begin.ensures p printed in
    let each = rw c.as_slice-then-are_references.ensures at c.print_references.ensures _ begun in
    has_array c.end.new.self p (map right_data c.args.rights.now) (c.end.ensures _ each)
