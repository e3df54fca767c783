use Rattle.std.proofs.Common.{◌≡◌, ◌∙◌, map, refl, ap, sum}
use Rattle.json_objects.specs.Sizes.{capped, enclosed_size}
use Rattle.access_rights.proofs.Lengths.{sizes_of, told_object}
use Rattle.access_rights.proofs.sizes.object_size.Goals as goal

pub returns : goal.returns
returns c =
    let r = c.args.right.now in
    let total : c.total_size.result ≡ capped (sum (map capped (sizes_of r))) =
    c.total_size.ensures ∙ rw (
      c.text_member_size.ensures,
      c.as_slice.ensures.value,
      c.texts_member_size.ensures,
      c.texts_member_size-2.ensures,
      c.texts_member_size-3.ensures,
      c.texts_member_size-4.ensures,
      c.optional_member_size.ensures,
      c.further_size.ensures,
    ) refl in
    c.enclosed_size.ensures ∙ ap (λ n. capped (enclosed_size n)) total ∙ told_object r c.requires
