use Rattle.std.proofs.Common.{sym, ◌∙◌}
use Rattle.std.proofs.lemmas.Result.{on_ok_weaker}
use Rattle.message_signature.proofs.SigningSteps.{digest_added}
use Rattle.message_signature.proofs.signing.add_digest.Goals as goal

pub returns-clause-ok : goal.returns-clause-ok
returns-clause-ok c =
    on_ok_weaker c.push.result
    (λ e. digest_added c.args.message.now c.push.new.self (sym c.has_body.ensures ∙ c.if-not-has_body.false) (sym c.has_field.ensures ∙ c.if-has_field.false)
    (rw (c.in_ok-field.ensures, c.in_ok-value.ensures, c.as_slice.ensures.value) at e))
    c.push.ensures.ok
