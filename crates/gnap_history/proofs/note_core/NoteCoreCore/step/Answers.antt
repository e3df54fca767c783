use Rattle.std.proofs.Common.{rules, ◌≡◌, max, refl, sym}
use Rattle.std.proofs.lemmas.Result.{IfOk-weaker, on_err_weaker}
use Rattle.histories.specs.ByNotes.{answers-by_notes, lapses-by_notes}
use Rattle.gnap_model.specs.Answer.{gnap_answer}
use Rattle.gnap_model.specs.declared.calls.Call.TheVariants.{Lapse}
use Rattle.grant_machine.specs.Gnap.{GnapFits}
use Rattle.gnap_history.proofs.note_core.NoteCoreCore.step.Goals as goal

pub returns-clause-ok : goal.returns-clause-ok
returns-clause-ok c =
    let s = c.args.self.now in
    let at : c.max-self.result ≡ max s.latest c.args.moment = search rules in
    IfOk-weaker c.enter_call.result _ _
    (λ reply both h stands. answers-by_notes gnap_answer GnapFits Lapse s.rules s.notes s.latest h c.args.moment c.args.draw.now c.args.call.now reply
    c.enter_call.new.notes c.max-self.result
    stands c.requires.fits c.requires.in_time at (rw (sym at) both.0) (rw (sym at) both.1))
    c.enter_call.ensures.ok

pub returns-clause-err : goal.returns-clause-err
returns-clause-err c =
    let s = c.args.self.now in
    let at : c.max-self.result ≡ max s.latest c.args.moment = search rules in
    on_err_weaker c.enter_call.result
    (λ same h stands. rw same (lapses-by_notes gnap_answer GnapFits Lapse s.rules s.notes s.latest h c.args.moment c.args.draw.now c.max-self.result stands
    (tt, tt) c.requires.in_time at refl))
    c.enter_call.ensures.err
