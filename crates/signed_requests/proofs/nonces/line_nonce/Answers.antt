use Rattle.std.proofs.Common.{◌≡◌, ◌∙◌, List, ℕ, true, sym, subst}
use Rattle.message_signature.specs.Marks.{is_nonce}
use Rattle.signed_requests.proofs.LineNonces.{joined, line_is_nonce}
use Rattle.signed_requests.proofs.nonces.line_nonce.Goals as goal

pub returns-clause-value : goal.returns-clause-value
returns-clause-value c = joined c.args.at c.args.number _ _ _ _ _ (c.as_bytes.ensures.value ∙ c.format.ensures.text)
    (c.as_bytes-2.ensures.value ∙ c.format-2.ensures.text)
    c.in_ok-nonce.ensures c.in_ok-push.ensures.ok c.in_ok-extend.ensures.ok

pub returns-clause-nonce : goal.returns-clause-nonce
returns-clause-nonce c = subst (λ (s : List ℕ). is_nonce s ≡ true) (sym (returns-clause-value c))
    (line_is_nonce c.args.at c.args.number c.ranges.at.fits c.ranges.number.fits)
