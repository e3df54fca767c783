use Rattle.std.proofs.Common.{◌≡◌, ◌≤◌, pos, inl, inr, length, get_or, w64, to_z, of_z, rules, arith}
use Rattle.structured_fields.proofs.PlainLists.{integer_parted}
use Rattle.structured_fields.proofs.plain_lists.unsigned_integer.Goals as goal

pub with_sign-requires : goal.with_sign-requires
with_sign-requires c = omega (arith, c.number_of.ensures.most 15 (omega arith))

pub returns : goal.returns
returns c =
    let least : 1 ≤ length c.digits_in.result.0.now = search rules in
    let lead : get_or c.digits_in.result.0.now 0 0 ≡ 48 → length c.digits_in.result.0.now ≡ 1 =
    λ zero. elim c.else-digits-eq48.either [ inl both ↦ both.1 | inr other ↦ absurd (other zero) ] in
    let same : to_z w64 (of_z w64 c.with_sign.result) ≡ pos c.number_of.result = search rules in
    rw same (integer_parted c.args.text.now c.digits_in.result.0.now c.digits_in.result.1.now c.number_of.result c.digits_in.ensures.front
    c.digits_in.ensures.behind c.digits_in.ensures.digits least lead c.number_of.ensures.value (c.number_of.ensures.most 15 (omega arith)))
