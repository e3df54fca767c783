-- A signature with a tag, by the texts of the two fields.
use Rattle.std.specs.Prelude.{◌≡◌, ℕ, List, Option, Some, None, Result, Ok}
use Rattle.structured_fields.specs.declared.bare.Bare.{Bare}
use Rattle.structured_fields.specs.declared.item.InnerList.{InnerList}
use Rattle.structured_fields.specs.Reading.{dictionary_of}
use Rattle.dictionary_lookup.specs.Skipping.{cut_list}
use Rattle.content_digest.specs.Digest.{binary_of}
use Rattle.message_signature.specs.declared.fault.SigFault.{SigFault}
use Rattle.message_signature.specs.declared.fault.SigFault.TheVariants.{NotAField, Malformed}
use Rattle.message_signature.specs.declared.lone.LoneList.{LoneList}
use Rattle.message_signature.specs.declared.lone.LoneList.TheVariants.{Shaped, Cut}
use Rattle.message_signature.specs.declared.lone.LoneSignature.{LoneSignature}
use Rattle.message_signature.specs.declared.reading.ReadSignature.{ReadSignature}
use Rattle.message_signature.specs.declared.reading.ReadSignature.TheVariants.{Alone, Among}
use Rattle.message_signature.specs.Faults.{◌>>=◌, need, must}
use Rattle.message_signature.specs.Verified.{Signature, is_well_formed, tagged_in}

-- the signature with the tag, where the two fields have these texts
abbrev pub read_tagged : List ℕ → List ℕ → List ℕ → Result Signature SigFault
read_tagged input signature tag = do
  inputs ← need NotAField (dictionary_of input)
  signatures ← need NotAField (dictionary_of signature)
  tagged_in tag (record { inputs = inputs; signatures = signatures })

-- the bytes of a byte sequence
abbrev pub bytes_in : Option Bare → Option (List ℕ)
bytes_in None = None
bytes_in (Some v) = binary_of v

-- the signature of this list and these bytes, where it has its form
abbrev pub formed : List ℕ → InnerList → Option (List ℕ) → Result Signature SigFault
formed label list o = do
  _ ← must Malformed (is_well_formed list)
  bytes ← need Malformed o
  Ok (record { label = label; list = list; bytes = bytes })

-- what is held of a list
abbrev pub list_in : LoneList → InnerList
list_in (Shaped one) = one.list
list_in (Cut list) = list

-- a signature as the code holds it, which stands under a label
abbrev pub lone_seen : List ℕ → LoneSignature → Signature
lone_seen label one = record { label = label; list = list_in one.held; bytes = one.bytes }

-- what is held of a signature that is read by itself: its list up to the first covered component that has parameters, which no base supports, and its bytes
abbrev pub cut_under : List ℕ → Signature → Signature
cut_under label sig = record { label = label; list = cut_list sig.list; bytes = sig.bytes }

-- what is held is that of the signature that was found
abbrev pub IsLone : Result Signature SigFault → LoneSignature → Type 0
IsLone found one = (sig : Signature) × (found ≡ Ok sig) × ((label : List ℕ) → lone_seen label one ≡ cut_under label sig)

-- what was read of the two fields tells the signature with the tag
abbrev pub IsRead : Result Signature SigFault → List ℕ → ReadSignature → Type 0
IsRead found tag (Alone one) = IsLone found one
IsRead found tag (Among fields) = found ≡ tagged_in tag fields

-- the signature with the tag by what was read of the two fields: one that was read by itself stands under some label, and its list is cut
abbrev pub tagged_read : List ℕ → List ℕ → ReadSignature → Result Signature SigFault
tagged_read label tag (Alone one) = Ok (lone_seen label one)
tagged_read label tag (Among fields) = tagged_in tag fields
