use Rattle.std.proofs.Common.{◌≡◌, ◌∷◌, [], refl}
use Rattle.std.specs.Prelude.{None}
use Rattle.outside.specs.Worlds.{WorldState}
use Rattle.outside.specs.declared.world.Opening.TheVariants.{File, Gears, Link}
use Rattle.resource_server.specs.declared.setup.RsSetup.{RsSetup}
use Rattle.gnap_tool.specs.Configs.{rs_setup_in}
use Rattle.gnap_tool.specs.Runs.{ServesRs}
use Rattle.gnap_tool.proofs.ServedResources.{unserved}
use Rattle.world_uses.proofs.AfterConfig.{by_setup_on, by_setup_off, unread_used, unread_isnt_done, unread_writes, uses_then}
use Rattle.gnap_tool.proofs.commands.serve_rs.Goals as goal

pub returns-in-Ok-clause-carried : goal.returns-in-Ok-clause-carried
returns-in-Ok-clause-carried g c out =
    let text = g.W.World.text c.args.world.now in
    let before = g.W.World.state c.args.world.now in
    let between = g.W.World.state c.open_config.new.world in
    let after = g.W.World.state c.serve_cached-ended.new.world in
    let ended = c.serve_cached-ended.result in
    let Then : WorldState → RsSetup
    → Type 0 = λ b setup. (out ≡ out) × ServesRs setup c.args.listen.now c.args.server.now c.args.quota c.args.cache b after ended in
    by_setup_on (λ (setup : RsSetup). setup) rs_setup_in (text c.args.config.now) before between Then c.in-Ok.setup after out out ended c.in-Ok.ensures.config
    (refl, c.serve_cached-ended.ensures.served)

pub returns-in-Err-clause-carried : goal.returns-in-Err-clause-carried
returns-in-Err-clause-carried g c out =
    let text = g.W.World.text c.args.world.now in
    let after = g.W.World.state c.open_config.new.world in
    let ended = c.in-Err.ended in
    let Then : WorldState → RsSetup
    → Type 0 = λ b setup. (out ≡ out) × ServesRs setup c.args.listen.now c.args.server.now c.args.quota c.args.cache b after ended in
    by_setup_off (λ (setup : RsSetup). setup) rs_setup_in (text c.args.config.now) (g.W.World.state c.args.world.now) after Then out ended
    (λ is setup. (refl, unserved setup c.args.listen.now c.args.server.now c.args.quota c.args.cache after ended is)) c.in-Err.ensures.config

pub returns-in-Ok-clause-world : goal.returns-in-Ok-clause-world
returns-in-Ok-clause-world g c =
    let before = g.W.World.state c.args.world.now in
    let between = g.W.World.state c.open_config.new.world in
    let after = g.W.World.state c.serve_cached-ended.new.world in
    uses_then c.args.config.now before between after c.in-Ok.ensures.world (Link c.args.server.now ∷ Gears c.args.listen.now 1 c.args.quota ∷ []) None
    c.serve_cached-ended.result c.serve_cached-ended.ensures.world

pub returns-in-Err-clause-world : goal.returns-in-Err-clause-world
returns-in-Err-clause-world g c =
    unread_used (λ (setup : RsSetup). setup) rs_setup_in (g.W.World.text c.args.world.now c.args.config.now) (g.W.World.state c.args.world.now)
    (g.W.World.state c.open_config.new.world) c.in-Err.ended
    c.in-Err.ensures.config (File c.args.config.now ∷ []) (Link c.args.server.now ∷ Gears c.args.listen.now 1 c.args.quota ∷ []) None c.in-Err.ensures.world

pub returns-in-Err-clause-writes : goal.returns-in-Err-clause-writes
returns-in-Err-clause-writes g c faults =
    unread_writes (λ (setup : RsSetup). setup) rs_setup_in (g.W.World.text c.args.world.now c.args.config.now) (g.W.World.state c.args.world.now)
    (g.W.World.state c.open_config.new.world) c.in-Err.ended
    c.in-Err.ensures.config faults

pub returns-in-Err-clause-quota : goal.returns-in-Err-clause-quota
returns-in-Err-clause-quota g c = λ gives well.
    absurd (unread_isnt_done (λ (setup : RsSetup). setup) rs_setup_in (g.W.World.text c.args.world.now c.args.config.now) (g.W.World.state c.args.world.now)
    (g.W.World.state c.open_config.new.world) c.in-Err.ended c.in-Err.ensures.config well)
