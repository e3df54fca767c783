-- What holds of each legal history of sets holds of the one that gears account for.
use Rattle.std.proofs.Common.{◌≡◌, ℕ, List, subst}
use Rattle.std.specs.Prelude.{Result}
use Rattle.outside.specs.Worlds.{WorldState}
use Rattle.outside.specs.declared.world.WorldFault.{WorldFault}
use Rattle.histories.specs.History.{Legal}
use Rattle.serving.specs.Services as serving
use Rattle.gnap_model.specs.declared.objects.Setup.{Setup}
use Rattle.resource_sets.specs.Sets.{SetEvent, sets}
use Rattle.resource_sets.specs.Laws.{SetsHold}
use Rattle.rs_facing.specs.SetSessions.{IsSetSession}
use Rattle.rs_facing.specs.SetServices.{IsSetService, not_started, served}

module _ {Done : Type 0} (setup : Setup) (address : List ℕ) (n quota : ℕ) (before after : WorldState)
    (known : (rules : Setup) (h : List SetEvent) → Legal sets rules h → SetsHold h) where
  holds : (result : Result Done WorldFault) → serving.IsService sets setup (IsSetSession setup) address n quota before after result
      → IsSetService setup address n quota before after result
  holds _ (serving.not_started fault same cause) = not_started fault same cause
  holds result (serving.served _ gears back many are ended) = served result gears back many (record {
    one = are.one;
    holds = known setup are.one.history are.one.legal;
    out = are.out;
  }) ended

-- a service of the setup that a server has is one of the setup that it was made of
pub sets_hold : {Done : Type 0} (setup own : Setup) (address : List ℕ) (n quota : ℕ) (before after : WorldState) (result : Result Done WorldFault)
    → own ≡ setup → ((rules : Setup) (h : List SetEvent) → Legal sets rules h → SetsHold h)
    → serving.IsService sets own (IsSetSession own) address n quota before after result → IsSetService setup address n quota before after result
sets_hold setup own address n quota before after result is known service = holds setup address n quota before after known result
    (subst (λ (s : Setup). serving.IsService sets s (IsSetSession s) address n quota before after result) is service)
