-- What serving resources at an address does to the world.
use Rattle.std.proofs.Common.{◌≡◌, ◌⊎◌, ℕ, List, [], ◌∷◌, refl, sym, subst, inl}
use Rattle.std.specs.Prelude.{Option, Some, None, Result, Err}
use Rattle.outside.specs.declared.world.Opening.TheVariants.{Gears, Link}
use Rattle.outside.specs.declared.world.WorldFault.{WorldFault}
use Rattle.outside.specs.declared.world.WorldFault.TheVariants as faults
use Rattle.outside.specs.Links.{new_link}
use Rattle.outside.specs.Worlds.{WorldState, with_opening, with_gears}
use Rattle.resource_server.specs.declared.setup.RsSetup.{RsSetup}
use Rattle.introspection_cache.specs.Caching.{Cache, Caches, new_cache}
use Rattle.rs_edge.specs.GuardedSteps.{GuardsKeeping}
use Rattle.rs_edge.specs.RsServices.{IsRsService, not_linked, not_started, served}
use Rattle.rs_edge.proofs.CachedTurns.{accounts_mean}
use Rattle.command_inputs.specs.declared.ended.Ended.{Ended}
use Rattle.command_inputs.specs.declared.ended.Ended.TheVariants.{Failed, Memory}
use Rattle.gnap_tool.specs.Runs.{ServesGuarded, ServesRs}
use Rattle.world_uses.specs.Uses.{UsesWorld, ended_service}
use Rattle.world_uses.proofs.Linked.{uses_around}
use Rattle.world_uses.proofs.ServedGears.{gears_used}
use Rattle.world_uses.proofs.Uses.{unopened_used}

pub resources_used : {K : Type 0} (guards : GuardsKeeping K) (first last : K) (setup : RsSetup) (listen server : List ℕ) (quota : ℕ) (before after : WorldState)
    (answer : Result (Unit {0}) WorldFault)
    → IsRsService guards setup listen server quota before after first last answer
    → UsesWorld (Link server ∷ Gears listen 1 quota ∷ []) None before after (ended_service answer)
resources_used guards first _ setup listen server quota before after (Err fault) (not_linked _ same cause) = unopened_used
    (Link server ∷ Gears listen 1 quota ∷ []) None before after fault _ refl same cause
resources_used guards first _ setup listen server quota before after (Err fault) (not_started _ same cause) =
    let open_now = with_opening (Link server) before in
    let middle : WorldState = record open_now { faults = after.faults } in
    uses_around server new_link (Gears listen 1 quota ∷ []) None before open_now middle after (ended_service (Err fault)) refl
    (unopened_used (Gears listen 1 quota ∷ []) None open_now middle fault _ refl refl cause) same
resources_used guards first _ setup listen server quota before after answer (served _ link gear last back is ended) =
    let open_now = with_opening (Link server) before in
    let started = with_opening (Gears listen 1 quota) open_now in
    uses_around server link (Gears listen 1 quota ∷ []) None before open_now (with_gears (gear ∷ []) started) after (ended_service answer) refl
    (gears_used listen 1 quota open_now (with_gears (gear ∷ []) started) (gear ∷ []) answer refl refl ended) back

-- where nothing was opened, with a cache or without one
pub unserved : (setup : RsSetup) (listen server : List ℕ) (quota : ℕ) (cache : Option ℕ) (world : WorldState) (ended : Ended)
    → (ended ≡ Failed) ⊎ (ended ≡ Memory)
    → ServesRs setup listen server quota cache world world ended
unserved setup listen server quota None world ended is = inl (refl, is)
unserved setup listen server quota (Some capacity) world ended is = (inl (refl, is), accounts_mean setup capacity)

-- the openings of a resource server, where memory ran out before them
pub unserved_used : (listen server : List ℕ) (quota : ℕ) (world : WorldState) → UsesWorld (Link server ∷ Gears listen 1 quota ∷ []) None world world Memory
unserved_used listen server quota world = unopened_used (Link server ∷ Gears listen 1 quota ∷ []) None world world faults.OutOfMemory Memory refl refl refl

-- what was served with a new cache
pub with_cache : (setup : RsSetup) (listen server : List ℕ) (quota : ℕ) (cache : Option ℕ) (capacity : ℕ) (first : Cache) (before after : WorldState)
    (ended : Ended)
    → cache ≡ Some capacity → first ≡ new_cache capacity → ServesGuarded Caches first setup listen server quota before after ended
    → ServesRs setup listen server quota cache before after ended
with_cache setup listen server quota cache capacity first before after ended is new serves =
    subst (λ (o : Option ℕ). ServesRs setup listen server quota o before after ended) (sym is)
    (subst (λ (c : Cache). ServesGuarded Caches c setup listen server quota before after ended) new serves, accounts_mean setup capacity)
