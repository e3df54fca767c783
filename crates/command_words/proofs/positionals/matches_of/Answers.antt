use Rattle.std.proofs.Common.{◌≡◌, false, ap, sym, ◌∙◌}
use denote.Enum.Bare.{sameb}
use Rattle.clap.specs.contracts.error.kind.ErrorKind.{the_type}
use Rattle.clap.specs.declared.error.kind.ErrorKind.TheVariants as kind
use Rattle.clap.specs.Simple.{app_of}
use Rattle.clap.specs.Faults.{is_simple_and_free}
use Rattle.clap.specs.Values.{kind_of}
use Rattle.command_words.specs.Positionals.{taking}
use Rattle.command_words.proofs.AfterDashes.{simple_and_free}
use Rattle.command_words.proofs.Refusals.{refused, took}
use Rattle.command_words.proofs.positionals.matches_of.Goals as goal

pub returns : goal.returns
returns c = λ words is.
    let count = c.args.count in
    let range = c.requires in
    let command_is : app_of c.in_ok-command.command ≡ taking count = c.in_ok-command.ensures in
    let own = c.in-Err.ensures.kinds (ap is_simple_and_free command_is ∙ simple_and_free count range.0 range.1) in
    let other : sameb the_type (kind_of c.in-Err.error) kind.OutOfMemory ≡ false = ap (λ k. sameb the_type k kind.OutOfMemory) (sym c.kind.ensures)
    ∙ sym c.eq.ensures ∙ c.if-eq.false in
    refused c.in-Err.error count range.0 range.1 _ _ words command_is is own other

pub returns-in-Ok : goal.returns-in-Ok
returns-in-Ok c = λ words is.
    let count = c.args.count in
    let range = c.requires in
    let command_is : app_of c.in_ok-command.command ≡ taking count = c.in_ok-command.ensures in
    took c.in-Ok.matches count _ _ words command_is is c.in-Ok.ensures.matches
    (c.in-Ok.ensures.kinds (ap is_simple_and_free command_is ∙ simple_and_free count range.0 range.1))
