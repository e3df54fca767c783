use Rattle.std.proofs.Common.{◌≡◌, List, ◌∷◌, [], sym, subst, inl, inr, refl}
use Rattle.std.specs.Prelude.{None}
use Rattle.outside.specs.Worlds.{WorldState}
use Rattle.outside.specs.declared.world.Opening.TheVariants.{File, Gears}
use Rattle.derivation_requests.specs.Pairs.{Pair}
use Rattle.command_inputs.specs.declared.ended.Ended.{Ended}
use Rattle.gnap_tool.specs.Configs.{pairs_in}
use Rattle.gnap_tool.specs.Runs.{ServesDeriving}
use Rattle.world_uses.specs.Uses.{UsesWorld}
use Rattle.world_uses.proofs.AfterConfig.{by_setup_on, by_setup_off, unread_used, unread_isnt_done, unread_writes, uses_then}
use Rattle.world_uses.proofs.ServedGears.{done_by}
use Rattle.gnap_tool.proofs.ServedSetups.{derivations_used}
use Rattle.gnap_tool.proofs.services.serve_deriving.Goals as goal

pub returns-in-Ok-clause-served : goal.returns-in-Ok-clause-served
returns-in-Ok-clause-served g c out =
    let before = g.W.World.state c.args.world.now in
    let between = g.W.World.state c.open_config.new.world in
    let after = g.W.World.state c.serve_deriving_at.new.world in
    let ended = c.ended_service.result in
    let Then : WorldState → List Pair → Type 0 = λ b known. (out ≡ out) × ServesDeriving known c.args.setup c.args.served.now b after ended in
    by_setup_on (λ (known : List Pair). known) (pairs_in c.args.setup) (g.W.World.text c.args.world.now c.args.pairs.now) before between Then c.in-Ok.known
    after out out ended
    c.in-Ok.ensures.config (refl, inr (c.serve_deriving_at.result, c.ended_service.ensures, c.serve_deriving_at.ensures.served))

pub returns-in-Err-clause-served : goal.returns-in-Err-clause-served
returns-in-Err-clause-served g c out =
    let after = g.W.World.state c.open_config.new.world in
    let ended = c.in-Err.ended in
    let Then : WorldState → List Pair → Type 0 = λ b known. (out ≡ out) × ServesDeriving known c.args.setup c.args.served.now b after ended in
    by_setup_off (λ (known : List Pair). known) (pairs_in c.args.setup) (g.W.World.text c.args.world.now c.args.pairs.now) (g.W.World.state c.args.world.now)
    after Then out
    ended (λ is known. (refl, inl (refl, is))) c.in-Err.ensures.config

pub returns-in-Ok-clause-world : goal.returns-in-Ok-clause-world
returns-in-Ok-clause-world g c =
    let served = c.args.served.now in
    let between = g.W.World.state c.open_config.new.world in
    let after = g.W.World.state c.serve_deriving_at.new.world in
    let listen = Gears served.listen served.workers served.quota ∷ [] in
    let U : Ended → Type 0 = λ ended. UsesWorld listen None between after ended in
    uses_then c.args.pairs.now (g.W.World.state c.args.world.now) between after c.in-Ok.ensures.world listen None c.ended_service.result
    (subst U (sym c.ended_service.ensures)
    (derivations_used c.args.setup served.listen served.workers served.quota between after c.in-Ok.known c.serve_deriving_at.result
    c.serve_deriving_at.ensures.served))

pub returns-in-Err-clause-world : goal.returns-in-Err-clause-world
returns-in-Err-clause-world g c =
    let served = c.args.served.now in
    unread_used (λ (known : List Pair). known) (pairs_in c.args.setup) (g.W.World.text c.args.world.now c.args.pairs.now) (g.W.World.state c.args.world.now)
    (g.W.World.state c.open_config.new.world) c.in-Err.ended c.in-Err.ensures.config (File c.args.pairs.now ∷ [])
    (Gears served.listen served.workers served.quota ∷ []) None c.in-Err.ensures.world

pub returns-in-Err-clause-writes : goal.returns-in-Err-clause-writes
returns-in-Err-clause-writes g c faults =
    unread_writes (λ (known : List Pair). known) (pairs_in c.args.setup) (g.W.World.text c.args.world.now c.args.pairs.now) (g.W.World.state c.args.world.now)
    (g.W.World.state c.open_config.new.world) c.in-Err.ended c.in-Err.ensures.config faults

pub returns-in-Ok-clause-quota : goal.returns-in-Ok-clause-quota
returns-in-Ok-clause-quota g c = λ gives.
    done_by c.serve_deriving_at.result c.ended_service.result _ c.ended_service.ensures (c.serve_deriving_at.ensures.quota gives)

pub returns-in-Err-clause-quota : goal.returns-in-Err-clause-quota
returns-in-Err-clause-quota g c = λ gives well.
    absurd (unread_isnt_done (λ (known : List Pair). known) (pairs_in c.args.setup) (g.W.World.text c.args.world.now c.args.pairs.now)
    (g.W.World.state c.args.world.now) (g.W.World.state c.open_config.new.world) c.in-Err.ended c.in-Err.ensures.config well)
