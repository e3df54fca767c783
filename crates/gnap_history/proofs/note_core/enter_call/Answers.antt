use Rattle.std.proofs.Common.{subst, sym}
use Rattle.gnap_history.specs.Terms.{AskForFew}
use Rattle.gnap_history.proofs.Terms.{answer_few}
use Rattle.gnap_history.proofs.note_core.enter_call.Goals as goal

pub append-requires : goal.append-requires
append-requires c =
    subst AskForFew (sym c.in_ok-answered.ensures.1)
    (answer_few c.args.rules.now c.args.notes.now c.args.now c.args.draw.now c.args.call.now c.requires.fits.0)
