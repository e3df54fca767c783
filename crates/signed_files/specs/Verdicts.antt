-- What is said of a message's signature.
use Rattle.std.specs.Prelude.{◌≡◌, ℕ, List, [], ◌∷◌, ◌++◌, fold, Result, Ok, Err, codes}
use Rattle.std.specs.Borrow.{Bor}
use Rattle.bytes_and_lists.specs.declared.message.Message.{Message}
use Rattle.hmac_key.specs.Keyring.{with_secret}
use Rattle.message_signature.specs.declared.fault.SigFault.{SigFault}
use Rattle.message_signature.specs.declared.fault.SigFault.TheVariants as signature
use Rattle.message_signature.specs.Verified.{verified}
use Rattle.gnap_model.specs.declared.objects.KeyRow.{KeyRow}
use Rattle.gnap_model.specs.declared.objects.Setup.{Setup}
use Rattle.signed_files.specs.declared.fault.FileFault.{FileFault}
use Rattle.signed_files.specs.declared.fault.FileFault.TheVariants.{Refused, OutOfMemory}
use Rattle.signed_files.specs.MessageFiles.{AnswersFile}
use Rattle.signed_files.specs.SignedText.{gnap_tag}

-- the secrets of the setup's keys, under their ids
abbrev pub with_key : List (List ℕ × List ℕ) → KeyRow → List (List ℕ × List ℕ)
with_key ring key = with_secret ring key.id key.secret

abbrev pub ring_of : Setup → List (List ℕ × List ℕ)
ring_of setup = fold with_key [] setup.keys

-- the line that names the key
abbrev pub key_line : List ℕ → List ℕ
key_line id = codes "key " ++ (id ++ 10 ∷ [])

abbrev pub name_of : SigFault → List ℕ
name_of signature.NoField = codes "NoField"
name_of signature.NotAField = codes "NotAField"
name_of signature.NoTag = codes "NoTag"
name_of signature.SeveralTags = codes "SeveralTags"
name_of signature.Malformed = codes "Malformed"
name_of signature.Unsupported = codes "Unsupported"
name_of signature.Uncovered = codes "Uncovered"
name_of signature.Created = codes "Created"
name_of signature.Expired = codes "Expired"
name_of signature.Alg = codes "Alg"
name_of signature.UnknownKey = codes "UnknownKey"
name_of signature.Differs = codes "Differs"
name_of signature.Digest = codes "Digest"
name_of signature.OutOfMemory = codes "OutOfMemory"

-- the line of the key under which the message is accepted by a server with this setup, or the name of the first fault
abbrev pub verdict : Result (List ℕ) SigFault → Result (List ℕ) (List ℕ)
verdict (Ok id) = Ok (key_line id)
verdict (Err fault) = Err (name_of fault)

abbrev pub VerifiesMessage : Setup → ℕ → Message → Result (List ℕ) (List ℕ) → Type 0
VerifiesMessage setup now m answer = answer ≡ verdict (verified m setup.base (ring_of setup) now gnap_tag)

-- the same of a file: a fault of its message comes first
abbrev pub VerifiesFile : Setup → ℕ → List ℕ → Result (List ℕ) (List ℕ) → Type 0
VerifiesFile setup now text answer = AnswersFile (VerifiesMessage setup now) text answer

-- ---- on the way to it

-- the fault that a file has for that of its signature
abbrev pub HasSignatureFault : SigFault → FileFault → Type 0
HasSignatureFault signature.OutOfMemory fault = fault ≡ OutOfMemory
HasSignatureFault other fault = (name : Bor (List ℕ)) × (fault ≡ Refused name) × (name.now ≡ name_of other)
