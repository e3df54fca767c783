use Rattle.std.proofs.Common.{arith}
use Rattle.command_words.proofs.ToldTexts.{front_shown}
use Rattle.command_words.proofs.telling.shown_front.Goals as goal

pub returns : goal.returns
returns c =
    let shown = c.loop-place.invariant in
    front_shown c.args.text.now c.loop-place.shown shown.long (λ k few inside. shown.each k (omega (arith, few, c.loop-place-test.false)) inside)
