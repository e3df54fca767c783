-- Replies as lines: the status, and where there is a body a space and the body.
use Rattle.std.specs.Prelude.{ℕ, List, [], ◌∷◌, ◌++◌, Option, Some, None}
use Rattle.std.specs.Fmt.{decimal}
use Rattle.gnap_model.specs.declared.objects.Setup.{Setup}
use Rattle.gnap_model.specs.declared.objects.ErrorCode.{ErrorCode}
use Rattle.gnap_model.specs.declared.calls.Reply.{Reply}
use Rattle.gnap_replies.specs.Responses.{response_of, error_response, text_of}

abbrev pub line_of : ℕ × Option (List ℕ) → List ℕ
line_of (status, None) = decimal status ++ 10 ∷ []
line_of (status, Some body) = decimal status ++ 32 ∷ body ++ 10 ∷ []

-- the line that shows a reply
unfoldable pub reply_line : Setup → Reply → List ℕ
reply_line setup reply = line_of (text_of (response_of setup reply))

-- the line that shows an error
unfoldable pub error_line : ErrorCode → List ℕ
error_line code = line_of (text_of (error_response code))
