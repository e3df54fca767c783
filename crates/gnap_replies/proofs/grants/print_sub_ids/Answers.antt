use Rattle.std.proofs.Common.{[], ◌∷◌}
use Rattle.json_objects.specs.Objects.{object_of}
use Rattle.gnap_replies.specs.Grants.{sub_id_fields}
use Rattle.gnap_replies.proofs.Printing.{has_array}
use Rattle.gnap_replies.proofs.grants.print_sub_ids.Goals as goal

pub returns : goal.returns
returns c p printed = has_array c.end.new.self p (object_of (sub_id_fields c.args.id.now) ∷ [])
    (c.end.ensures _ (c.print_sub_id.ensures _ (c.begin.ensures p printed)))
