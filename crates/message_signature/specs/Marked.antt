-- What the verifying of a message's signature answers with the mark of that signature.
use Rattle.std.specs.Prelude.{ℕ, List, Option, Result, Ok, Err}
use Rattle.bytes_and_lists.specs.declared.message.Message.{Message}
use Rattle.message_signature.specs.declared.fault.SigFault.{SigFault}
use Rattle.message_signature.specs.declared.marks.SignatureMark.{SignatureMark}
use Rattle.message_signature.specs.Faults.{◌>>=◌}
use Rattle.message_signature.specs.Verified.{Signature, tagged, judged, verified}
use Rattle.message_signature.specs.Marks.{mark_in, mark_of}

-- the id of the key with a mark, or the first fault
abbrev pub with_mark : Option SignatureMark → Result (List ℕ) SigFault → Result (List ℕ × Option SignatureMark) SigFault
with_mark mark (Ok id) = Ok (id, mark)
with_mark mark (Err fault) = Err fault

-- The id of the key with the mark of the message, or the first fault.
abbrev pub verified_marked : Message → List ℕ → List (List ℕ × List ℕ) → ℕ → List ℕ → Result (List ℕ × Option SignatureMark) SigFault
verified_marked m base ring now tag = with_mark (mark_of m tag) (verified m base ring now tag)

-- the id of the key of a signature that was found, with the mark of its list
abbrev pub judged_with_mark : Message → List ℕ → List (List ℕ × List ℕ) → ℕ → Signature → Result (List ℕ × Option SignatureMark) SigFault
judged_with_mark m base ring now one = do
  id ← judged m base ring now one
  Ok (id, mark_in one.list)

-- what `verified_marked` gives, as it is worked out: the mark is that of the list whose signature is judged
unfoldable pub id_and_mark : Message → List ℕ → List (List ℕ × List ℕ) → ℕ → List ℕ → Result (List ℕ × Option SignatureMark) SigFault
id_and_mark m base ring now tag = do
  one ← tagged m tag
  judged_with_mark m base ring now one
