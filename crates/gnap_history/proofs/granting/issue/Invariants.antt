use Rattle.std.proofs.Common.{◌≡◌, ◌*◌, ◌++◌, take, map}
use Rattle.gnap_model.specs.Actions.{tokens_for, token_out}
use Rattle.gnap_model.specs.declared.notes.Note.TheVariants.{Issued}
use Rattle.gnap_history.specs.Drawings.{supply}
use Rattle.gnap_history.proofs.granting.issue.Given as goal

abbrev pub invariant-loop-ask : goal.invariant-loop-ask
invariant-loop-ask l =
    let issued = tokens_for (supply l.drawing) l.opening (take l.ask-index l.asks) 0 in
    record {
      next : l.index ≡ 2 * l.ask-index;
      handed : l.tokens ≡ map (token_out l.drawing.moment) issued;
      noted : l.added ≡ l.initial.added ++ map Issued issued;
    }
