-- How a request is settled, in the words of the definitions.
use Rattle.gnap_model.specs.Judging.{Settled}
use Rattle.gnap_model.specs.Judging.Settled.{AtOnce, ByAsking, Never}
use Rattle.grant_rules.specs.declared.settling.Course.{Course}
use Rattle.grant_rules.specs.declared.settling.Course.TheVariants as code

abbrev pub settled : Course → Settled
settled code.AtOnce = AtOnce
settled code.ByAsking = ByAsking
settled code.Never = Never
