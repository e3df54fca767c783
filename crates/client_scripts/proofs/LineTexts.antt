-- Lines by whether they are UTF-8.
use Rattle.std.proofs.Common.{◌≡◌, ◌∙◌, ℕ, List, Some, None, refl, true, false}
use Rattle.std.specs.Prelude.{IsUtf8, Err}
use Rattle.std.specs.Str.{is_utf8}
use Rattle.std.proofs.lemmas.Bool.{cond-true, cond-false}
use Rattle.std.proofs.lemmas.Str.{IsUtf8-from_is_utf8, is_utf8-from_IsUtf8}
use Rattle.serde_json.specs.Data.{Data}
use Rattle.serde_json.specs.Read.{read}
use Rattle.client_scripts.specs.Lines.{object_step, line_step, not_json}

-- ---- the text of a line

pub text_step : (number : ℕ) (line : List ℕ) (d : Data) → IsUtf8 line → read line ≡ Some d → line_step number line ≡ object_step number d
unfolding line_step
text_step number line d valid e = cond-true _ _ (Err not_json) (is_utf8-from_IsUtf8 line valid) ∙ rw e refl

by_utf8 : (number : ℕ) (line : List ℕ) (b : _) → is_utf8 line ≡ b → (IsUtf8 line → read line ≡ None) → line_step number line ≡ Err not_json
unfolding line_step
by_utf8 number line true e none = cond-true _ _ (Err not_json) e ∙ rw (none (IsUtf8-from_is_utf8 line e)) refl
by_utf8 number line false e none = cond-false _ _ (Err not_json) e

pub no_text : (number : ℕ) (line : List ℕ) → (IsUtf8 line → read line ≡ None) → line_step number line ≡ Err not_json
no_text number line none = by_utf8 number line (is_utf8 line) refl none
