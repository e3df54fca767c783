use Rattle.std.proofs.Common.{rules, ◌≡◌, max, refl}
use Rattle.std.proofs.lemmas.Result.{IfOk-weaker, on_err_weaker}
use Rattle.histories.specs.ByNotes.{answers-by_notes, lapses-by_notes}
use Rattle.resource_sets.specs.Sets.{SetFits, set_answer}
use Rattle.resource_sets.specs.declared.sets.SetCall.TheVariants.{Lapse}
use Rattle.resource_sets.proofs.SetPasts.{stands-kept}
use Rattle.resource_sets.proofs.set_table.SetTableCore.step.Goals as goal

pub answer_call-requires-clause-kept : goal.answer_call-requires-clause-kept
answer_call-requires-clause-kept c =
    let s = c.args.self.now in stands-kept s.rules s.sets s.latest c.requires.short.0 c.requires.short.1

pub returns-clause-ok : goal.returns-clause-ok
returns-clause-ok c =
    let s = c.args.self.now in
    let at : c.max-self.result ≡ max s.latest c.args.moment = search rules in
    IfOk-weaker c.answer_call.result _ _
    (λ reply answered h stands. let both = answered (max s.latest c.args.moment) in
    answers-by_notes set_answer SetFits Lapse s.rules s.sets s.latest h c.args.moment c.args.draw.now c.args.call.now reply
    c.answer_call.new.sets c.max-self.result
    stands c.requires.fits c.requires.in_time at both.reply_is both.added)
    c.answer_call.ensures.ok

pub returns-clause-err : goal.returns-clause-err
returns-clause-err c =
    let s = c.args.self.now in
    let at : c.max-self.result ≡ max s.latest c.args.moment = search rules in
    on_err_weaker c.answer_call.result
    (λ same h stands. rw same
    (lapses-by_notes set_answer SetFits Lapse s.rules s.sets s.latest h c.args.moment c.args.draw.now c.max-self.result stands tt c.requires.in_time at refl))
    c.answer_call.ensures.err
