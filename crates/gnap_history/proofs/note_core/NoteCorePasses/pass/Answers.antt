use Rattle.std.proofs.Common.{rules, ◌≡◌, max, refl}
use Rattle.histories.specs.ByNotes.{lapses-by_notes}
use Rattle.gnap_model.specs.Answer.{gnap_answer}
use Rattle.gnap_model.specs.declared.calls.Call.TheVariants.{Lapse}
use Rattle.grant_machine.specs.Gnap.{GnapFits}
use Rattle.gnap_history.proofs.note_core.NoteCorePasses.pass.Goals as goal

pub returns-clause-lapses : goal.returns-clause-lapses
returns-clause-lapses c =
    let s = c.args.self.now in
    let at : c.max-self.result ≡ max s.latest c.args.moment = search rules in
    λ h draw stands. lapses-by_notes gnap_answer GnapFits Lapse s.rules s.notes s.latest h c.args.moment draw c.max-self.result stands (tt, tt)
    c.requires.in_time at refl
