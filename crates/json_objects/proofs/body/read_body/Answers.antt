use Rattle.std.proofs.Common.{◌∙◌, sym, true≢false, inr}
use Rattle.serde_json.specs.View.{view}
use Rattle.json_objects.proofs.Bodies.{body_is, body_is_none}
use Rattle.json_objects.proofs.body.read_body.Goals as goal

pub returns-then-has_fraction-clause-value : goal.returns-then-has_fraction-clause-value
returns-then-has_fraction-clause-value c = inr
    (body_is c.args.text.now (view c.in-Ok.value) c.in-Ok.ensures.ok
    ∙ rw (← c.is_object.ensures, c.if-not-is_object.false, ← c.has_fraction.ensures, c.if-has_fraction.true))

pub returns-else-has_fraction-clause-value : goal.returns-else-has_fraction-clause-value
returns-else-has_fraction-clause-value c = body_is c.args.text.now (view c.in-Ok.value) c.in-Ok.ensures.ok
    ∙ rw (← c.is_object.ensures, c.if-not-is_object.false, ← c.has_fraction.ensures, c.if-has_fraction.false)

pub returns-else-is_memory-clause-value : goal.returns-else-is_memory-clause-value
returns-else-is_memory-clause-value c = inr
    (body_is_none c.args.text.now (c.in-Err.ensures.err (λ m. true≢false (sym (c.is_memory.ensures.1 m) ∙ c.if-is_memory.false))))
