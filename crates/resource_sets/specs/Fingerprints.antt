-- What stands for a set in the index.
use Rattle.std.specs.Prelude.{ℕ, List, ◌++◌, take}
use Rattle.std.specs.Int.{from_be_bytes, w64}
use Rattle.sha2.specs.Sha256.{sha256}
use Rattle.serde_json.specs.Written.{compact_text}
use Rattle.gnap_model.specs.Common.{Text}
use Rattle.gnap_model.specs.declared.rights.Right.{Right}
use Rattle.access_rights.specs.Printing.{rights_data}

-- the first 8 bytes of the SHA-256 of the server's key id and the rights' compact JSON text, as a number
unfoldable pub fingerprint : Text → List Right → ℕ
fingerprint server rights = from_be_bytes w64 (take 8 (sha256 (server ++ compact_text (rights_data rights))))
