use Rattle.std.proofs.Common.{◌∙◌}
use Rattle.access_rights.proofs.MaskedChoices.{choices_are_granted}
use Rattle.access_rights.proofs.masks.covers_by_masks.Goals as goal

pub returns : goal.returns
returns c = c.choices_meet.ensures ∙ rw (
  c.as_slice.ensures.value,
  c.in_ok-actions.ensures,
  c.as_slice-2.ensures.value,
  c.in_ok-locations.ensures,
  c.as_slice-3.ensures.value,
  c.in_ok-datatypes.ensures,
  c.as_slice-4.ensures.value,
  c.in_ok-privileges.ensures,
) (choices_are_granted c.args.granted.now c.args.wanted.now)
