use Rattle.std.proofs.Common.{ℕ, List, ◌∷◌, [], subst}
use Rattle.std.specs.Prelude.{Option, None}
use Rattle.outside.specs.Worlds.{WorldState}
use Rattle.outside.specs.declared.world.Opening.TheVariants.{File}
use Rattle.gnap_model.specs.declared.objects.Setup.{Setup}
use Rattle.command_inputs.specs.Configs.{setup_in}
use Rattle.gnap_tool.specs.Openings.{service_openings}
use Rattle.gnap_tool.specs.Runs.{ServesBy}
use Rattle.world_uses.proofs.AfterConfig.{by_setup_on, by_setup_off, unread_used, unread_isnt_done, unread_writes, uses_then}
use Rattle.gnap_tool.proofs.ServedSetups.{nothing_served}
use Rattle.gnap_tool.proofs.services.serve.Goals as goal

pub returns-in-Ok-clause-carried : goal.returns-in-Ok-clause-carried
returns-in-Ok-clause-carried g c out =
    let text = g.W.World.text c.args.world.now in
    let between = g.W.World.state c.open_config.new.world in
    let after = g.W.World.state c.serve_setup.new.world in
    let ended = c.serve_setup.result in
    let Then : WorldState → Setup → Type 0 = λ b setup. ServesBy c.args.service.now setup c.args.served.now text b after out out ended in
    let T : (List ℕ → Option (List ℕ)) → Type 0 = λ t. ServesBy c.args.service.now c.in-Ok.setup c.args.served.now t between after out out ended in
    by_setup_on (λ (setup : Setup). setup) setup_in (text c.args.served.now.config) (g.W.World.state c.args.world.now) between Then c.in-Ok.setup after out out
    ended
    c.in-Ok.ensures.config (subst T c.in-Ok.ensures.text (c.serve_setup.ensures.served out))

pub returns-in-Err-clause-carried : goal.returns-in-Err-clause-carried
returns-in-Err-clause-carried g c out =
    let text = g.W.World.text c.args.world.now in
    let after = g.W.World.state c.open_config.new.world in
    let ended = c.in-Err.ended in
    let Then : WorldState → Setup → Type 0 = λ b setup. ServesBy c.args.service.now setup c.args.served.now text b after out out ended in
    by_setup_off (λ (setup : Setup). setup) setup_in (text c.args.served.now.config) (g.W.World.state c.args.world.now) after Then out ended
    (λ is setup. nothing_served c.args.service.now setup c.args.served.now text after out ended is) c.in-Err.ensures.config

pub returns-in-Ok-clause-world : goal.returns-in-Ok-clause-world
returns-in-Ok-clause-world g c =
    uses_then c.args.served.now.config (g.W.World.state c.args.world.now) (g.W.World.state c.open_config.new.world) (g.W.World.state c.serve_setup.new.world)
    c.in-Ok.ensures.world (service_openings c.args.service.now c.args.served.now) None c.serve_setup.result c.serve_setup.ensures.world

pub returns-in-Err-clause-world : goal.returns-in-Err-clause-world
returns-in-Err-clause-world g c =
    unread_used (λ (setup : Setup). setup) setup_in (g.W.World.text c.args.world.now c.args.served.now.config) (g.W.World.state c.args.world.now)
    (g.W.World.state c.open_config.new.world) c.in-Err.ended c.in-Err.ensures.config (File c.args.served.now.config ∷ [])
    (service_openings c.args.service.now c.args.served.now) None c.in-Err.ensures.world

pub returns-in-Err-clause-writes : goal.returns-in-Err-clause-writes
returns-in-Err-clause-writes g c faults =
    unread_writes (λ (setup : Setup). setup) setup_in (g.W.World.text c.args.world.now c.args.served.now.config) (g.W.World.state c.args.world.now)
    (g.W.World.state c.open_config.new.world) c.in-Err.ended c.in-Err.ensures.config faults

pub returns-in-Err-clause-quota : goal.returns-in-Err-clause-quota
returns-in-Err-clause-quota g c = λ gives well.
    absurd (unread_isnt_done (λ (setup : Setup). setup) setup_in (g.W.World.text c.args.world.now c.args.served.now.config) (g.W.World.state c.args.world.now)
    (g.W.World.state c.open_config.new.world) c.in-Err.ended c.in-Err.ensures.config well)
