use Rattle.std.proofs.Common.{◌≡◌, ◌++◌}
use Rattle.std.proofs.lemmas.Result.{IfOk-weaker}
use Rattle.structured_fields.specs.Grammar.{IsInner}
use Rattle.structured_fields.specs.Canonical.{inner_text}
use Rattle.structured_fields.proofs.Written.{inner_is}
use Rattle.structured_fields.proofs.writing.write_inner.Goals as goal

pub returns-clause-text : goal.returns-clause-text
returns-clause-text c =
    IfOk-weaker c.append_inner.result (λ b. b ≡ c.new.result ++ inner_text c.args.v.now) (λ b. IsInner b c.args.v.now)
    (λ b is. rw (is, c.new.ensures) (inner_is c.args.v.now c.requires)) c.append_inner.ensures
