use Rattle.std.proofs.Common.{ap, sym, ◌∙◌, add-one}
use Rattle.clap.specs.Simple.{with_rule}
use Rattle.command_words.specs.Positionals.{name_of, required, taking}
use Rattle.command_words.proofs.positionals.taking.Goals as goal

pub loop-place-preserved : goal.loop-place-preserved
loop-place-preserved c =
    c.in_ok-command.ensures ∙ ap (λ app. with_rule app (required (name_of c.loop-place.place))) c.loop-place.invariant
    ∙ ap taking (sym (add-one c.loop-place.place))
