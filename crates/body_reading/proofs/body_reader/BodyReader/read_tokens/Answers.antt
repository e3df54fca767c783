use Rattle.std.proofs.Common.{◌≡◌, Some, ◌∙◌, sym, ap, inr}
use Rattle.serde_json.specs.Read.{read}
use Rattle.serde_json.specs.View.{view}
use Rattle.json_objects.proofs.Bodies.{body_is, body_is_none}
use Rattle.body_reading.proofs.body_reader.BodyReader.read_tokens.Goals as goal

pub returns-in_default-clause-value : goal.returns-in_default-clause-value
returns-in_default-clause-value c = inr (body_is_none c.args.text.now (λ utf8. absurd (c.in_default.ensures.cases.0 utf8)))

pub returns-then-has_fraction-clause-value : goal.returns-then-has_fraction-clause-value
returns-then-has_fraction-clause-value c =
    let checked = c.in-Ok.ensures.cases in
    let is : read c.args.text.now ≡ Some (view c.in-Ok-read_text.value) = ap read (sym checked.0) ∙ c.in-Ok-read_text.ensures.ok in
    inr (body_is c.args.text.now (view c.in-Ok-read_text.value) (checked.1, is)
    ∙ rw (← c.is_object.ensures, c.if-not-is_object.false, ← c.has_fraction.ensures, c.if-has_fraction.true))

pub returns-else-has_fraction-clause-value : goal.returns-else-has_fraction-clause-value
returns-else-has_fraction-clause-value c =
    let checked = c.in-Ok.ensures.cases in
    let is : read c.args.text.now ≡ Some (view c.in-Ok-read_text.value) = ap read (sym checked.0) ∙ c.in-Ok-read_text.ensures.ok in
    body_is c.args.text.now (view c.in-Ok-read_text.value) (checked.1, is)
    ∙ rw (← c.is_object.ensures, c.if-not-is_object.false, ← c.has_fraction.ensures, c.if-has_fraction.false)
