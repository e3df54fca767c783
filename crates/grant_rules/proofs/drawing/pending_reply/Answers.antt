use Rattle.std.proofs.Common.{◌≡◌, ◌∙◌, ℕ, refl, Option, Some, None}
use Rattle.std.specs.Prelude.{replicate}
use Rattle.std.specs.Option.{unwrap_or}
use Rattle.gnap_model.specs.Common.{Text}
use Rattle.gnap_model.specs.Actions.{or_zeros}
use Rattle.grant_rules.proofs.drawing.pending_reply.Goals as goal

zeros_else : (size : ℕ) (text : Option Text) → unwrap_or text (replicate size 0) ≡ or_zeros size text
zeros_else size None = refl
zeros_else size (Some text) = refl

pub returns : goal.returns
returns c =
    let round = c.args.round.now in
    rw (
      c.in_ok-new.ensures ∙ c.in_ok-copy.ensures,
      c.unwrap_or.ensures ∙ zeros_else 8 round.code,
      c.unwrap_or-2.ensures ∙ zeros_else 32 round.nonce,
      c.saturating_sub.ensures,
    ) refl
