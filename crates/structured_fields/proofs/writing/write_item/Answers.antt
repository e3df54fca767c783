use Rattle.std.proofs.Common.{◌≡◌, ◌++◌}
use Rattle.std.proofs.lemmas.Result.{IfOk-weaker}
use Rattle.structured_fields.specs.Grammar.{IsItemText}
use Rattle.structured_fields.specs.Canonical.{item_text}
use Rattle.structured_fields.proofs.Written.{item_text_is}
use Rattle.structured_fields.proofs.writing.write_item.Goals as goal

pub returns-clause-text : goal.returns-clause-text
returns-clause-text c =
    IfOk-weaker c.append_item.result (λ b. b ≡ c.new.result ++ item_text c.args.v.now) (λ b. IsItemText b c.args.v.now)
    (λ b is. rw (is, c.new.ensures) (item_text_is c.args.v.now c.requires)) c.append_item.ensures
