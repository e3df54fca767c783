-- What the command `verify` reads of the text that the command `sign` prints (RFC 9112).
use Rattle.std.specs.Prelude.{◌≡◌, ℕ, ◌+◌, ◌<◌, ◌≤◌, ◌^◌, true, List, length, map, Option, Some, Ok, IfSome}
use Rattle.std.specs.List.{list_all}
use Rattle.bytes_and_lists.specs.declared.message.Message.{Message}
use Rattle.structured_fields.specs.Letters.{is_string_byte}
use Rattle.message_signature.specs.Marks.{is_nonce}
use Rattle.message_signature.specs.Signed.{params_of, signed_under}
use Rattle.http1.specs.Fields.{Header}
use Rattle.http_edge.specs.Limits.{head_limit, field_limit}
use Rattle.http_edge.specs.Framing.{asks_to_close}
use Rattle.gnap_model.specs.declared.objects.KeyRow.{KeyRow}
use Rattle.gnap_model.specs.declared.objects.Setup.{Setup}
use Rattle.gnap_model.specs.Keys.{key_of}
use Rattle.signed_files.specs.MessageFiles.{IsMessageFile}
use Rattle.signed_files.specs.SignedText.{gnap_tag, message_text, SignsFile}

-- the names and the values of a message's fields
abbrev pub headers_in : Message → List Header
headers_in m = map (λ f. (f.name, f.value)) m.fields

-- the message as one of HTTP/1.1: its connection closes where a field asks for that
abbrev pub as_printed : Message → Message
as_printed m = record m { last = asks_to_close (headers_in m) }

-- the text of a message has no longer a head than one that is read, and no more fields
pub record HasReadSize (text : List ℕ) (m : Message) : Type 0 where
  pub head : length text ≤ head_limit + length m.body
  pub fields : length m.fields ≤ field_limit

-- A file was one message. What was answered is the text of this message with its signature, and where it isn't too large it is read as just that one.
pub record IsSignedFile (setup : Setup) (id : List ℕ) (created : ℕ) (nonce : Option (List ℕ)) (file answer : List ℕ) : Type 0 where
  pub message : Message
  pub is_message : IsMessageFile file (Ok message)
  pub key : KeyRow
  pub has_key : key_of setup id ≡ Some key
  pub signed : Message
  pub signs : signed_under message setup.base (params_of id created nonce gnap_tag) key.secret ≡ Some signed
  pub prints : answer ≡ message_text signed
  pub reads : HasReadSize answer signed → IsMessageFile answer (Ok (as_printed signed))

-- a signed file is read as what was signed
abbrev pub SignedFilesReadBack : Type 0
SignedFilesReadBack = (setup : Setup) (id : List ℕ) (created : ℕ) (nonce : Option (List ℕ)) (file answer : List ℕ)
    → list_all is_string_byte id ≡ true → created < 10 ^ 15 → IfSome nonce (λ n. is_nonce n ≡ true)
    → SignsFile setup id created nonce file (Ok answer) → IsSignedFile setup id created nonce file answer
