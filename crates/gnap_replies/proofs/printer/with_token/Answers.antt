use Rattle.std.proofs.Common.{◌∙◌}
use Rattle.gnap_replies.proofs.Printing.{token_behind}
use Rattle.gnap_replies.proofs.printer.with_token.Goals as goal

pub returns : goal.returns
returns c p printed = token_behind p _ _ _ _ _ c.into_inner.ensures.items
    (c.in_ok-token.ensures.room.0 ∙ c.new-out.ensures.before ∙ c.in_ok-with_comma.ensures p printed) c.in_ok-token.ensures.ok c.new-out.ensures.tokens
