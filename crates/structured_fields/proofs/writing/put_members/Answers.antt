use Rattle.std.proofs.Common.{◌∷◌, [], append_assoc}
use Rattle.structured_fields.specs.Canonical.{member_text}
use Rattle.structured_fields.proofs.Written.{separated_more}
use Rattle.structured_fields.proofs.writing.put_members.Goals as goal

pub loop-i-preserved : goal.loop-i-preserved
loop-i-preserved c = let m = separated_more (44 ∷ 32 ∷ []) member_text c.args.v.now c.loop-i.i c.at.result.now c.at.ensures in
    rw (m, c.in_ok-put_member.ensures, c.in_ok-put_between.ensures, c.loop-i.invariant) (simp append_assoc)
