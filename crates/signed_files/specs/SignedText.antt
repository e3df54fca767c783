-- A message with its signature, as bytes.
use Rattle.std.specs.Prelude.{◌≡◌, ℕ, true, false, List, ◌++◌, flat_map, Option, Some, None, Result, Ok, Err, codes}
use Rattle.bytes_and_lists.specs.declared.message.Field.{Field}
use Rattle.bytes_and_lists.specs.declared.message.Message.{Message}
use Rattle.message_signature.specs.Signed.{has_signature, params_of, signed_under}
use Rattle.gnap_model.specs.declared.objects.KeyRow.{KeyRow}
use Rattle.gnap_model.specs.declared.objects.Setup.{Setup}
use Rattle.gnap_model.specs.Keys.{key_of}
use Rattle.signed_files.specs.MessageFiles.{AnswersFile}

-- the tag of GNAP's signatures (RFC 9635, section 7.3.1)
abbrev pub gnap_tag : List ℕ
gnap_tag = codes "gnap"

-- ---- the bytes of a message (RFC 9112, section 2.1)

abbrev pub request_line : Message → List ℕ
request_line m = m.method ++ (codes " " ++ (m.target ++ codes " HTTP/1.1\r\n"))

abbrev pub field_line : Field → List ℕ
field_line f = f.name ++ (codes ": " ++ (f.value ++ codes "\r\n"))

abbrev pub message_text : Message → List ℕ
message_text m = request_line m ++ (flat_map field_line m.fields ++ (codes "\r\n" ++ m.body))

-- ---- signing

-- The bytes of the message with the signature that the key of this id makes for it at this time, with a nonce where there is one, or why it isn't signed.
pub data SignsMessage (setup : Setup) (id : List ℕ) (created : ℕ) (nonce : Option (List ℕ)) (m : Message) : Result (List ℕ) (List ℕ) → Type 0 where
  no_key : key_of setup id ≡ None → SignsMessage setup id created nonce m (Err (codes "UnknownKey"))
  signed_before : (key : KeyRow) → key_of setup id ≡ Some key → has_signature m ≡ true → SignsMessage setup id created nonce m (Err (codes "HasSignature"))
  signs : (key : KeyRow) (n : Message) → key_of setup id ≡ Some key → has_signature m ≡ false
      → signed_under m setup.base (params_of id created nonce gnap_tag) key.secret ≡ Some n → SignsMessage setup id created nonce m (Ok (message_text n))

-- the same of a file: a fault of its message comes first
abbrev pub SignsFile : Setup → List ℕ → ℕ → Option (List ℕ) → List ℕ → Result (List ℕ) (List ℕ) → Type 0
SignsFile setup id created nonce text answer = AnswersFile (SignsMessage setup id created nonce) text answer
