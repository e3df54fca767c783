use Rattle.std.proofs.Common.{◌≡◌, false, sym, subst}
use Rattle.serde_json.specs.Data.{Data}
use Rattle.serde_json.specs.Written.{has_float}
use Rattle.resource_sets.specs.SetsFit.{SetReplyFits}
use Rattle.rs_facing.proofs.WholeSets.{resolved_whole}
use Rattle.rs_facing.proofs.set_replies.set_reply.Goals as goal

pub object_reply-requires-in-Resolved : goal.object_reply-requires-in-Resolved
object_reply-requires-in-Resolved c =
    let fits = subst SetReplyFits c.in-Resolved.is c.requires.reply in
    subst (λ (d : Data). has_float d ≡ false) (sym c.in_ok-object-in-Resolved.ensures)
    (resolved_whole c.as_slice-in-Resolved.result.now c.in-Resolved.rights fits.1)
