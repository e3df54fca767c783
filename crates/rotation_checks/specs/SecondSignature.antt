-- The second signature of a message: by the new key, over the first (RFC 9635, section 6.1.1).
use Rattle.std.specs.Prelude.{ℕ, Bool, ◌&&◌, List, Some, Result, codes}
use Rattle.std.specs.List.{list_any}
use Rattle.bytes_and_lists.specs.declared.message.Message.{Message}
use Rattle.structured_fields.specs.declared.item.InnerList.{InnerList}
use Rattle.message_signature.specs.declared.fault.SigFault.{SigFault}
use Rattle.message_signature.specs.declared.fault.SigFault.TheVariants.{Unsupported}
use Rattle.message_signature.specs.Faults.{◌>>=◌, need}
use Rattle.message_signature.specs.Verified.{Signature, tagged, judged_over}
use Rattle.rotation_checks.specs.RotationBase.{is_component, rotation_base}

-- the tags of the two signatures
abbrev pub first_tag : List ℕ
first_tag = codes "gnap"

abbrev pub second_tag : List ℕ
second_tag = codes "gnap-rotate"

-- the id of the key of a signature of a message, over the base that may cover another signature
unfoldable pub judged_again : Message → List ℕ → List (List ℕ × List ℕ) → ℕ → Signature → Result (List ℕ) SigFault
judged_again m base ring now one = do
  text ← need Unsupported (rotation_base m base one.list)
  judged_over m text ring now one.list one.bytes

-- The id of the key of the second signature, or its first fault: the checks are those of any signature.
unfoldable pub verified_again : Message → List ℕ → List (List ℕ × List ℕ) → ℕ → Result (List ℕ) SigFault
verified_again m base ring now = do
  one ← tagged m second_tag
  judged_again m base ring now one

-- the list covers the field's member under this label
abbrev pub covers_member : List ℕ → List ℕ → InnerList → Bool
covers_member name label list = list_any (is_component name (Some label)) list.items

-- the list covers the signature with this label: its bytes, and its own list with the parameters
abbrev pub is_chained : List ℕ → InnerList → Bool
is_chained label list = covers_member (codes "signature") label list && covers_member (codes "signature-input") label list
