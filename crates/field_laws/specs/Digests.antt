-- What holds of the answers to a Content-Digest field and a body.
use Rattle.std.specs.Prelude.{◌≡◌, ℕ, List, Result}
use Rattle.base64.specs.GeneralPurpose.{IsBytes}
use Rattle.content_digest.specs.declared.fault.DigestFault.{DigestFault}
use Rattle.content_digest.specs.Judged.{Says}

-- the function gives the one answer that is so
pub record IsAnsweredBy (answer_of : List ℕ → List ℕ → Result (Unit {0}) DigestFault) : Type 0 where
  pub says : (field body : List ℕ) → IsBytes field → Says field body (answer_of field body)
  pub only : (field body : List ℕ) (answer : Result (Unit {0}) DigestFault) → IsBytes field → Says field body answer → answer_of field body ≡ answer
