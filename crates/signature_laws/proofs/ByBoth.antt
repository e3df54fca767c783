-- Two keys are the answer exactly where each signature is its key's, and the second covers the first.
use Rattle.std.proofs.Common.{◌≡◌, Ok, Result, sym, ap, ◌∙◌, subst}
use Rattle.message_signature.specs.declared.fault.SigFault.{SigFault}
use Rattle.message_signature.specs.declared.tags.SignatureFields.{SignatureFields}
use Rattle.message_signature.specs.Faults.{◌>>=◌}
use Rattle.message_signature.specs.Verified.{Signature, signature_fields, tagged_in, tagged, judged, verified}
use Rattle.message_signature.proofs.CheckSteps.{step_ok}
use Rattle.rotation_checks.specs.declared.verifying.RotatedKeys.{RotatedKeys}
use Rattle.rotation_checks.specs.SecondSignature.{first_tag, second_tag, judged_again, verified_again, is_chained}
use Rattle.rotation_checks.specs.Rotated.{rotated_keys}
use Rattle.signature_laws.specs.Rotation.{AreKeysOf, RotatedIsByBoth, ByBothIsRotated}
use Rattle.signature_laws.proofs.RotationSteps.{first_ok, second_ok, chain_ok, first_step, second_step, chain_step}

-- one answer is one value
pub same_value : {A : Type 0} (r : Result A SigFault) (x y : A) → r ≡ Ok x → r ≡ Ok y → x ≡ y
same_value r x y a b = let both : Ok x ≡ Ok y = sym a ∙ b in cc

pub rotated_is_by_both : RotatedIsByBoth
unfolding rotated_keys tagged verified verified_again
rotated_is_by_both m base ring now keys e =
    let fields = first_ok (signature_fields m) _ keys e in
    let first = first_ok (tagged_in first_tag fields.value) _ keys fields.rest in
    let old = first_ok (judged m base ring now first.value) _ keys first.rest in
    let second = second_ok (tagged_in second_tag fields.value) _ keys old.rest in
    let new = second_ok (judged_again m base ring now second.value) _ keys second.rest in
    let chained = chain_ok (is_chained first.value.label second.value.list) _ keys new.rest in
    let found : RotatedKeys = record { old = old.value; new = new.value } in
    let same : found ≡ keys = cc in
    let first_is : tagged m first_tag ≡ Ok first.value = ap (λ (r : Result SignatureFields SigFault). r >>= tagged_in first_tag) fields.is ∙ first.is in
    let second_is : tagged m second_tag ≡ Ok second.value = ap (λ (r : Result SignatureFields SigFault). r >>= tagged_in second_tag) fields.is ∙ second.is in
    subst (AreKeysOf m base ring now) same (record {
      old = ap (λ (r : Result Signature SigFault). r >>= judged m base ring now) first_is ∙ old.is;
      new = ap (λ (r : Result Signature SigFault). r >>= judged_again m base ring now) second_is ∙ new.is;
      first = first.value;
      first_is = first_is;
      second = second.value;
      second_is = second_is;
      covers = chained.0;
    })

pub by_both_is_rotated : ByBothIsRotated
unfolding rotated_keys tagged verified verified_again
by_both_is_rotated m base ring now keys a =
    let first = step_ok (signature_fields m) (tagged_in first_tag) a.first a.first_is in
    let second = step_ok (signature_fields m) (tagged_in second_tag) a.second a.second_is in
    let same : second.value ≡ first.value = same_value (signature_fields m) second.value first.value second.is first.is in
    let old = step_ok (tagged m first_tag) (judged m base ring now) keys.old a.old in
    let new = step_ok (tagged m second_tag) (judged_again m base ring now) keys.new a.new in
    let old_is : judged m base ring now a.first
    ≡ Ok keys.old = ap (judged m base ring now) (same_value (tagged m first_tag) a.first old.value a.first_is old.is) ∙ old.rest in
    let new_is : judged_again m base ring now a.second
    ≡ Ok keys.new = ap (judged_again m base ring now) (same_value (tagged m second_tag) a.second new.value a.second_is new.is) ∙ new.rest in
    let second_is : tagged_in second_tag first.value ≡ Ok a.second = ap (tagged_in second_tag) (sym same) ∙ second.rest in
    first_step (signature_fields m) _ first.value first.is
    ∙ first_step (tagged_in first_tag first.value) _ a.first first.rest
    ∙ first_step (judged m base ring now a.first) _ keys.old old_is
    ∙ second_step (tagged_in second_tag first.value) _ a.second second_is
    ∙ second_step (judged_again m base ring now a.second) _ keys.new new_is
    ∙ chain_step (is_chained a.first.label a.second.list) _ a.covers
