-- What serving a setup at an address does to the world.
use Rattle.std.proofs.Common.{◌≡◌, ℕ, List, [], ◌∷◌, ◌⊎◌, refl, sym, subst, inl}
use Rattle.std.specs.Prelude.{Option, None, Result, Err}
use Rattle.outside.specs.declared.world.Opening.TheVariants.{Gears}
use Rattle.outside.specs.declared.world.WorldFault.{WorldFault}
use Rattle.outside.specs.Outside.{Told}
use Rattle.outside.specs.Worlds.{WorldState}
use Rattle.gnap_model.specs.declared.objects.Setup.{Setup}
use Rattle.as_service.specs.Services.{IsService}
use Rattle.as_service.specs.Services as grants
use Rattle.derivation_requests.specs.Pairs.{Pair}
use Rattle.as_service.specs.DerivedServices.{IsDerivingService}
use Rattle.as_service.specs.DerivedServices as derivations
use Rattle.rs_facing.specs.SetServices.{IsSetService}
use Rattle.rs_facing.specs.SetServices as sets
use Rattle.command_inputs.specs.declared.ended.Ended.{Ended}
use Rattle.command_inputs.specs.declared.ended.Ended.TheVariants.{Failed, Memory}
use Rattle.command_words.specs.declared.command.Service.{Service}
use Rattle.command_words.specs.declared.command.Service.TheVariants.{Grants, Derivations, Sets}
use Rattle.command_words.specs.declared.command.ServedSetup.{ServedSetup}
use Rattle.gnap_tool.specs.Openings.{service_openings}
use Rattle.gnap_tool.specs.Runs.{ServesBy}
use Rattle.world_uses.proofs.ServedGears.{gears_used}
use Rattle.world_uses.specs.Uses.{UsesWorld, ended_service}
use Rattle.world_uses.proofs.Uses.{unopened_used}

-- each of the servers
module _ (setup : Setup) (address : List ℕ) (n quota : ℕ) (before after : WorldState) where
  pub grants_used : (answer : Result (Unit {0}) WorldFault) → IsService setup address n quota before after answer
      → UsesWorld (Gears address n quota ∷ []) None before after (ended_service answer)
  grants_used (Err fault) (grants.not_started _ same cause) = unopened_used (Gears address n quota ∷ []) None before after fault _ refl same cause
  grants_used answer (grants.served _ gears back many are ended) = gears_used address n quota before after gears answer back many ended

  pub derivations_used : (pairs : List Pair) (answer : Result (Unit {0}) WorldFault) → IsDerivingService pairs setup address n quota before after answer
      → UsesWorld (Gears address n quota ∷ []) None before after (ended_service answer)
  derivations_used pairs (Err fault) (derivations.not_started _ same cause) = unopened_used (Gears address n quota ∷ []) None before after fault _ refl same
      cause
  derivations_used pairs answer (derivations.served _ gears back many are ended) = gears_used address n quota before after gears answer back many ended

  pub sets_used : (answer : Result (Unit {0}) WorldFault) → IsSetService setup address n quota before after answer
      → UsesWorld (Gears address n quota ∷ []) None before after (ended_service answer)
  sets_used (Err fault) (sets.not_started _ same cause) = unopened_used (Gears address n quota ∷ []) None before after fault _ refl same cause
  sets_used answer (sets.served _ gears back many are ended) = gears_used address n quota before after gears answer back many ended

-- where nothing was opened behind the setup
pub nothing_served : (service : Service) (setup : Setup) (served : ServedSetup) (text : List ℕ → Option (List ℕ)) (world : WorldState) (out : Told)
    (ended : Ended)
    → (ended ≡ Failed) ⊎ (ended ≡ Memory) → ServesBy service setup served text world world out out ended
nothing_served Grants setup served text world out ended is = (refl, inl (refl, is))
nothing_served (Derivations pairs) setup served text world out ended is = inl (refl, (refl, is))
nothing_served Sets setup served text world out ended is = (refl, inl (refl, is))

-- what is served is known
module _ (named service : Service) (is : service ≡ named) (setup : Setup) (served : ServedSetup) (before after : WorldState) (ended : Ended) where
  pub serves_as : (text : List ℕ → Option (List ℕ)) (out : Told) → ServesBy named setup served text before after out out ended
      → ServesBy service setup served text before after out out ended
  serves_as text out serves = subst (λ (s : Service). ServesBy s setup served text before after out out ended) (sym is) serves

  pub service_used : UsesWorld (service_openings named served) None before after ended → UsesWorld (service_openings service served) None before after ended
  service_used uses = subst (λ (s : Service). UsesWorld (service_openings s served) None before after ended) (sym is) uses
