use Rattle.std.proofs.Common.{◌+◌, [], take, refl, arith}
use Rattle.gnap_model.specs.Actions.{tokens_for, token_out}
use Rattle.gnap_model.specs.declared.notes.Note.TheVariants.{Issued}
use Rattle.gnap_history.specs.Drawings.{supply}
use Rattle.grant_rules.proofs.Issuing.{issued_more, made_more}
use Rattle.gnap_history.proofs.granting.issue.Goals as goal

pub loop-ask-preserved : goal.loop-ask-preserved
loop-ask-preserved c =
    let drawing = c.args.drawing.now in
    let drawn = supply drawing in
    let asks = c.args.asks.now in
    let i = c.loop-ask.ask-index in
    let before = tokens_for drawn c.args.opening.now (take i asks) 0 in
    let after = tokens_for drawn c.args.opening.now (take (i + 1) asks) 0 in
    let more = issued_more drawn c.args.opening.now asks i c.loop-ask.index c.ask-item.result c.in_ok-issued.issued
    c.loop-ask-test.true c.ask-item.is c.loop-ask.invariant.next c.in_ok-issued.ensures in
    record {
      next = omega arith;
      handed = made_more (token_out drawing.moment) before after c.in_ok-issued.issued [] c.loop-ask.tokens c.push.new.self c.in_ok-token_out.field-0
          more c.loop-ask.invariant.handed c.in_ok-token_out.ensures c.in_ok-push.ensures.ok;
      noted = made_more (λ t. Issued t) before after c.in_ok-issued.issued c.args.added.now c.loop-ask.added c.push-in-loop-ask.new.self
          (Issued c.in_ok-issued.issued)
          more c.loop-ask.invariant.noted refl c.in_ok-push-2.ensures.ok;
    }
