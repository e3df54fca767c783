use Rattle.std.proofs.Common.{◌∙◌, ap, map, nat_lt}
use Rattle.json_objects.specs.Objects.{items}
use Rattle.json_objects.proofs.Lengths.{told_array}
use Rattle.access_rights.specs.Printing.{right_data}
use Rattle.gnap_objects.proofs.AskedSizes.{nat_lt-capped}
use Rattle.gnap_objects.proofs.members.is_too_long.Goals as goal

pub returns : goal.returns
returns c = ap (nat_lt 4096) (c.enclosed_size.ensures ∙ told_array _ (items (map right_data c.args.rights.now)) c.listed_size.ensures) ∙ nat_lt-capped _
