-- A signature with a tag, as the code holds it.
use Rattle.message_signature.specs.declared.tags.TaggedSignature.{TaggedSignature}
use Rattle.message_signature.specs.Verified.{Signature}

-- its label, its inner list and its bytes, which stand in the two fields
abbrev pub signature_seen : TaggedSignature → Signature
signature_seen one = record { label = one.label.now; list = one.list.now; bytes = one.bytes.now }
