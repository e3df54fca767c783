use Rattle.std.proofs.Common.{◌≡◌, ◌∙◌, ◌-◌, length, refl, ap, sym, arith}
use Rattle.json_objects.proofs.Lengths.{length-object}
use Rattle.json_objects.specs.Sizes.{enclosed_size, members_size}
use Rattle.access_rights.proofs.Lengths.{two_or_more}
use Rattle.access_rights.proofs.sizes.further_size.Goals as goal

pub returns-then-len-eq2 : goal.returns-then-len-eq2
returns-then-len-eq2 c =
    let ms = c.requires.members in
    let size : length c.args.text.now ≡ enclosed_size (members_size ms) = ap length (sym c.requires.compact) ∙ length-object ms in
    let none : members_size ms ≡ 0 = (two_or_more ms c.args.text.now size).0 (omega arith) in
    rw (c.requires.read_as, none) refl

pub returns-else-len-eq2 : goal.returns-else-len-eq2
returns-else-len-eq2 c =
    let ms = c.requires.members in
    let size : length c.args.text.now ≡ enclosed_size (members_size ms) = ap length (sym c.requires.compact) ∙ length-object ms in
    let more : members_size ms ≡ length c.args.text.now - 1 = (two_or_more ms c.args.text.now size).1 (λ two. absurd (omega arith)) in
    rw c.requires.read_as (omega arith)
