use Rattle.std.proofs.Common.{◌≡◌, ◌∙◌, reverse, slice_index}
use Rattle.gnap_model.specs.Standing.{live_codes}
use Rattle.gnap_history.specs.Drawings.{trail}
use Rattle.grant_rules.proofs.UserCodes.{free_code-reordered}
use Rattle.gnap_history.proofs.user_codes.user_code.Goals as goal

pub returns : goal.returns
returns c =
    let drawing = c.args.drawing.now in
    let codes : c.as_slice-2.result.now ≡ reverse (live_codes (trail drawing) drawing.moment) =
    c.as_slice-2.ensures ∙ (rw c.as_slice.ensures at c.in_ok-taken.ensures) in
    (rw c.word.ensures at c.free_code.ensures) ∙ free_code-reordered (slice_index drawing.words.now 47) c.as_slice-2.result.now (live_codes (trail drawing) drawing.moment) codes
