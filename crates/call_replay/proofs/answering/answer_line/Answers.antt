use Rattle.std.proofs.Common.{◌∙◌, ℕ, List, [], ◌++◌, ap, sym, subst, refl, true, false}
use Rattle.histories.specs.History.{Legal, entry_of}
use Rattle.gnap_model.specs.declared.objects.Setup.{Setup}
use Rattle.signed_calls.specs.Marks.{unmarked_lapse}
use Rattle.grant_machine.specs.Gnap.{GnapEntry, gnap}
use Rattle.grant_machine.proofs.FitsThrough.{entered_fits}
use Rattle.call_replay.specs.CallLines.{line_step}
use Rattle.call_replay.specs.ReplyLines.{reply_line}
use Rattle.histories.specs.Turns.{direct, called, starved, lapsed, unsaid}
use Rattle.command_inputs.specs.LineRuns.{Prints}
use Rattle.call_replay.proofs.LineTurns.{goes_on, without_entry, with_entry, with_lapse}
use Rattle.call_replay.proofs.answering.answer_line.Goals as goal

pub returns-in-Err-clause-turn : goal.returns-in-Err-clause-turn
returns-in-Err-clause-turn g c h full seen same =
    without_entry _ _ _ full _ h _ _ _ 0 [] false refl (refl, refl) seen (starved full 0)

pub returns-in-Ok-Say-clause-turn : goal.returns-in-Ok-Say-clause-turn
returns-in-Ok-Say-clause-turn g c h full seen same =
    let said = same ∙ ap (line_step c.args.setup.now c.args.number) (sym c.as_slice.ensures.value) ∙ sym c.in-Ok-Say.ensures.step ∙ c.in-Ok-Say.field-0-is in
    without_entry _ _ _ full _ h _ _ _ 0 c.in-Ok-Say.text true (goes_on _ c.say.ensures.fed) c.say.ensures.prints seen (direct full 0 c.in-Ok-Say.text said)

pub returns-in-Err-answer-clause-turn : goal.returns-in-Err-answer-clause-turn
returns-in-Err-answer-clause-turn g c h full seen same =
    let asked = same ∙ ap (line_step c.args.setup.now c.args.number) (sym c.as_slice.ensures.value) ∙ sym c.in-Ok-Ask.ensures.step ∙ c.in-Ok-Ask.field-0-is in
    let x = c.in-Err-answer.ensures.err h seen in
    let rules = g.D.Desk.rules c.args.desk.now in
    let e = entry_of gnap rules (h ++ x.others) (g.D.Desk.number c.args.desk.now) c.in-Ok-Ask.moment c.in-Ok-Ask.draw unmarked_lapse in
    with_lapse _ _ _ full _ h _ _ _ c.in-Ok-Ask.moment [] false refl (refl, refl) rules c.in-Ok-Ask.draw x (lapsed full e c.in-Ok-Ask.signed asked refl)

pub reply_line-text-requires-clause-reply : goal.reply_line-text-requires-clause-reply
reply_line-text-requires-clause-reply g c =
    let rules = g.D.Desk.rules c.args.desk.now in
    let L : List GnapEntry → Setup → Type 0 = λ k r. Legal gnap r k in
    entered_fits rules _ c.requires.room.0 c.in-Ok-Ask.moment c.in-Ok-Ask.draw c.in-Ok-Ask.signed c.in-Ok.reply (g.D.Desk.seen c.submit-answer.new.self)
    (λ k seen. subst (L k) c.in-Ok.ensures.rules (g.met.D.Desk.legal c.submit-answer.new.self k seen))
    (c.in-Ok.ensures.ok c.requires.room.0 c.requires.room.1)

pub returns-in-Err-text-clause-turn : goal.returns-in-Err-text-clause-turn
returns-in-Err-text-clause-turn g c h full seen same =
    let asked = same ∙ ap (line_step c.args.setup.now c.args.number) (sym c.as_slice.ensures.value) ∙ sym c.in-Ok-Ask.ensures.step ∙ c.in-Ok-Ask.field-0-is in
    let x = c.in-Ok.ensures.ok h seen in
    let rules = g.D.Desk.rules c.args.desk.now in
    let e = entry_of gnap rules (h ++ x.others) (g.D.Desk.number c.args.desk.now) c.in-Ok-Ask.moment c.in-Ok-Ask.draw c.in-Ok-Ask.signed in
    with_entry _ _ _ full _ h _ _ _ c.in-Ok-Ask.moment [] false refl (refl, refl) rules c.in-Ok-Ask.draw c.in-Ok-Ask.signed c.in-Ok.reply x
    (unsaid full e asked)

pub returns-in-Ok-text-clause-turn : goal.returns-in-Ok-text-clause-turn
returns-in-Ok-text-clause-turn g c h full seen same =
    let asked = same ∙ ap (line_step c.args.setup.now c.args.number) (sym c.as_slice.ensures.value) ∙ sym c.in-Ok-Ask.ensures.step ∙ c.in-Ok-Ask.field-0-is in
    let x = c.in-Ok.ensures.ok h seen in
    let rules = g.D.Desk.rules c.args.desk.now in
    let e = entry_of gnap rules (h ++ x.others) (g.D.Desk.number c.args.desk.now) c.in-Ok-Ask.moment c.in-Ok-Ask.draw c.in-Ok-Ask.signed in
    let P : List ℕ → Type 0 = λ text. Prints c.say-in-Ok-text.result text (g.O.Device.told c.args.out.now)
    (g.O.Device.told c.say-in-Ok-text.new.out) in
    with_entry _ _ _ full _ h _ _ _ c.in-Ok-Ask.moment (reply_line c.args.setup.now e.reply) true (goes_on _ c.say-in-Ok-text.ensures.fed)
    (subst P (c.in-Ok-text.ensures ∙ ap (reply_line c.args.setup.now) x.reply_is) c.say-in-Ok-text.ensures.prints)
    rules c.in-Ok-Ask.draw c.in-Ok-Ask.signed c.in-Ok.reply x (called full e asked)
