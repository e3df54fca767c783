-- The members of the two fields, where both are dictionaries.
use Rattle.std.proofs.Common.{◌≡◌, ◌∙◌, ℕ, List, Some, Ok, refl, ap}
use Rattle.std.specs.Prelude.{codes}
use Rattle.bytes_and_lists.specs.declared.message.Message.{Message}
use Rattle.structured_fields.specs.declared.item.Member.{Member}
use Rattle.structured_fields.specs.Reading.{dictionary_of}
use Rattle.message_signature.specs.declared.fault.SigFault.TheVariants.{NoField, NotAField}
use Rattle.message_signature.specs.declared.tags.SignatureFields.{SignatureFields}
use Rattle.message_signature.specs.Components.{field_value}
use Rattle.message_signature.specs.Verified.{signature_fields}
use Rattle.message_signature.proofs.CheckSteps.{need_ok}
use Rattle.rotation_checks.specs.RotationBase.{members_of, signature_members}

members_is : (m : Message) (name text : List ℕ) (d : List (List ℕ × Member)) → field_value name m.fields ≡ Some text → dictionary_of text ≡ Some d
    → members_of m name ≡ d
members_is m name text d v r = rw (v, r) refl

pub members_are : (m : Message) (fields : SignatureFields) → signature_fields m ≡ Ok fields → signature_members m ≡ fields
members_are m fields e =
    let input = need_ok NoField (field_value (codes "signature-input") m.fields) _ fields e in
    let signature = need_ok NoField (field_value (codes "signature") m.fields) _ fields input.rest in
    let inputs = need_ok NotAField (dictionary_of input.value) _ fields signature.rest in
    let signatures = need_ok NotAField (dictionary_of signature.value) _ fields inputs.rest in
    let found : SignatureFields = record { inputs = inputs.value; signatures = signatures.value } in
    let same : found ≡ fields = cc in
    ap (λ (i : List (List ℕ × Member)). the_fields i (members_of m (codes "signature")))
    (members_is m (codes "signature-input") input.value inputs.value input.is inputs.is)
    ∙ ap (λ (s : List (List ℕ × Member)). the_fields inputs.value s)
    (members_is m (codes "signature") signature.value signatures.value signature.is signatures.is)
    ∙ same
  where
    the_fields : List (List ℕ × Member) → List (List ℕ × Member) → SignatureFields
    the_fields i s = record { inputs = i; signatures = s }
