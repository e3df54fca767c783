-- What a line may ask of a desk.
use Rattle.std.specs.Prelude.{◌≢◌, ◌≤◌}
use Rattle.histories.specs.History.{last_moment}
use Rattle.signed_calls.specs.Marks.{unmarked_lapse}
use Rattle.grant_machine.specs.Gnap.{SignedFits}
use Rattle.call_replay.specs.declared.call_lines.LineStep.{LineStep}
use Rattle.call_replay.specs.declared.call_lines.LineStep.TheVariants.{Say, Ask}

abbrev pub IsAsked : LineStep → Type 0
IsAsked (Say text) = Unit {0}
IsAsked (Ask moment draw signed) = (moment ≤ last_moment) × SignedFits signed × (signed ≢ unmarked_lapse)
