use Rattle.std.proofs.Common.{◌≡◌, sym, subst}
use Rattle.std.specs.Prelude.{IfOk}
use Rattle.as_edge.specs.DirectReplies.{direct_reply}
use Rattle.as_edge.proofs.replies.print_direct.Goals as goal

pub returns-in-NotAllowed : goal.returns-in-NotAllowed
returns-in-NotAllowed c = subst (λ answer. IfOk c.not_allowed.result (λ ready. ready ≡ direct_reply c.args.setup.now c.args.last answer))
    (sym c.in-NotAllowed.is) c.not_allowed.ensures
