-- Each fault is the answer where it is the first.
use Rattle.std.proofs.Common.{◌≡◌, ◌⊎◌, inl, inr, Ok, Err, Result, refl, sym, ap, ◌∙◌}
use Rattle.message_signature.specs.declared.fault.SigFault.{SigFault}
use Rattle.message_signature.specs.declared.tags.SignatureFields.{SignatureFields}
use Rattle.message_signature.specs.Faults.{◌>>=◌}
use Rattle.message_signature.specs.Verified.{signature_fields, tagged_in, tagged, judged, verified}
use Rattle.message_signature.proofs.CheckSteps.{step_ok}
use Rattle.rotation_checks.specs.SecondSignature.{first_tag, second_tag, judged_again, verified_again, is_chained}
use Rattle.rotation_checks.specs.Rotated.{rotated_keys}
use Rattle.signature_laws.specs.Rotation.{FirstIsTold, SecondIsTold, NotChainedIsTold}
use Rattle.signature_laws.proofs.RotationSteps.{first_step, second_step, first_failed, second_failed, chain_failed}
use Rattle.signature_laws.proofs.ByBoth.{same_value}

-- a step that gives a value, behind which the next one fails
record FailsBehind {A B : Type 0} (r : Result A SigFault) (f : A → Result B SigFault) (fault : SigFault) : Type 0 where
  value : A
  is : r ≡ Ok value
  fails : f value ≡ Err fault

-- of two steps the first fails, or the second
failed_at : {A B : Type 0} (r : Result A SigFault) (f : A → Result B SigFault) (fault : SigFault) → (r >>= f) ≡ Err fault
    → (r ≡ Err fault) ⊎ FailsBehind r f fault
failed_at (Ok x) f fault e = inr (record { value = x; is = refl; fails = e })
failed_at (Err other) f fault e = let is : other ≡ fault = cc in inl (ap (λ (x : SigFault). Err x) is)

pub first_is_told : FirstIsTold
unfolding rotated_keys tagged verified
first_is_told m base ring now fault e = elim (failed_at (tagged m first_tag) (judged m base ring now) fault e) [
  | inl not_tagged ↦ elim (failed_at (signature_fields m) (tagged_in first_tag) fault not_tagged) [
    | inl no_fields ↦ first_failed (signature_fields m) _ fault no_fields
    | inr fields ↦ first_step (signature_fields m) _ fields.value fields.is ∙ first_failed (tagged_in first_tag fields.value) _ fault fields.fails
  ]
  | inr one ↦ let fields = step_ok (signature_fields m) (tagged_in first_tag) one.value one.is in
      first_step (signature_fields m) _ fields.value fields.is ∙ first_step (tagged_in first_tag fields.value) _ one.value fields.rest
      ∙ first_failed (judged m base ring now one.value) _ fault one.fails
]

pub second_is_told : SecondIsTold
unfolding rotated_keys tagged verified verified_again
second_is_told m base ring now old fault first_passes e =
    let one = step_ok (tagged m first_tag) (judged m base ring now) old first_passes in
    let fields = step_ok (signature_fields m) (tagged_in first_tag) one.value one.is in
    first_step (signature_fields m) _ fields.value fields.is
    ∙ first_step (tagged_in first_tag fields.value) _ one.value fields.rest
    ∙ first_step (judged m base ring now one.value) _ old one.rest
    ∙ elim (failed_at (tagged m second_tag) (judged_again m base ring now) fault e) [
      | inl not_tagged ↦ second_failed (tagged_in second_tag fields.value) _ fault
          (sym (ap (λ (r : Result SignatureFields SigFault). r >>= tagged_in second_tag) fields.is) ∙ not_tagged)
      | inr two ↦ second_step (tagged_in second_tag fields.value) _ two.value
          (sym (ap (λ (r : Result SignatureFields SigFault). r >>= tagged_in second_tag) fields.is) ∙ two.is)
          ∙ second_failed (judged_again m base ring now two.value) _ fault two.fails
    ]

pub not_chained_is_told : NotChainedIsTold
unfolding rotated_keys tagged verified verified_again
not_chained_is_told m base ring now old new first second first_passes second_passes first_is second_is apart =
    let fields = step_ok (signature_fields m) (tagged_in first_tag) first first_is in
    let one = step_ok (tagged m first_tag) (judged m base ring now) old first_passes in
    let two = step_ok (tagged m second_tag) (judged_again m base ring now) new second_passes in
    first_step (signature_fields m) _ fields.value fields.is
    ∙ first_step (tagged_in first_tag fields.value) _ first fields.rest
    ∙ first_step (judged m base ring now first) _ old (ap (judged m base ring now) (same_value (tagged m first_tag) first one.value first_is one.is) ∙ one.rest)
    ∙ second_step (tagged_in second_tag fields.value) _ second
    (sym (ap (λ (r : Result SignatureFields SigFault). r >>= tagged_in second_tag) fields.is) ∙ second_is)
    ∙ second_step (judged_again m base ring now second) _ new
    (ap (judged_again m base ring now) (same_value (tagged m second_tag) second two.value second_is two.is) ∙ two.rest)
    ∙ chain_failed (is_chained first.label second.list) _ apart
