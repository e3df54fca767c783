use Rattle.std.proofs.Common.{◌∷◌, [], ◌++◌}
use Rattle.std.specs.Prelude.{None}
use Rattle.outside.specs.declared.world.Opening.TheVariants.{File}
use Rattle.gnap_model.specs.declared.objects.Setup.{Setup}
use Rattle.signed_files.specs.Verdicts.{VerifiesFile}
use Rattle.printed_answers.specs.MessageAnswers.{PrintsFor}
use Rattle.command_inputs.specs.Configs.{setup_in}
use Rattle.world_uses.proofs.AfterConfig.{file_on, file_off, unread_used, unread_writes, uses_then}
use Rattle.gnap_tool.proofs.commands.verify.Goals as goal

pub returns-in-Ok-clause-carried : goal.returns-in-Ok-clause-carried
returns-in-Ok-clause-carried g c =
    let out_now = g.O.Device.told c.carry_out_over-ended.new.out in
    let ended = c.carry_out_over-ended.result in
    file_on (λ (setup : Setup). setup) setup_in (g.W.World.text c.args.world.now) c.args.config.now c.args.file.now (g.W.World.state c.args.world.now)
    (g.W.World.state c.open_config.new.world) (g.O.Device.told c.args.out.now) (g.W.World.text c.open_config.new.world) c.in-Ok.setup
    (g.W.World.state c.carry_out_over-ended.new.world) out_now ended
    (λ setup taken rest. PrintsFor (VerifiesFile setup c.args.now (taken ++ rest)) (g.O.Device.told c.args.out.now) out_now ended)
    c.in-Ok.ensures.text c.in-Ok.ensures.config c.carry_out_over-ended.ensures.over

pub returns-in-Err-clause-carried : goal.returns-in-Err-clause-carried
returns-in-Err-clause-carried g c =
    let out = g.O.Device.told c.args.out.now in
    file_off (λ (setup : Setup). setup) setup_in (g.W.World.text c.args.world.now) c.args.config.now c.args.file.now (g.W.World.state c.args.world.now)
    (g.W.World.state c.open_config.new.world) out c.in-Err.ended
    (λ setup taken rest. PrintsFor (VerifiesFile setup c.args.now (taken ++ rest)) out out c.in-Err.ended) c.in-Err.ensures.config

pub returns-in-Ok-clause-world : goal.returns-in-Ok-clause-world
returns-in-Ok-clause-world g c = uses_then c.args.config.now _ _ _ c.in-Ok.ensures.world (File c.args.file.now ∷ []) None _ c.carry_out_over-ended.ensures.world

pub returns-in-Err-clause-world : goal.returns-in-Err-clause-world
returns-in-Err-clause-world g c =
    unread_used (λ (setup : Setup). setup) setup_in (g.W.World.text c.args.world.now c.args.config.now) (g.W.World.state c.args.world.now)
    (g.W.World.state c.open_config.new.world) c.in-Err.ended
    c.in-Err.ensures.config (File c.args.config.now ∷ []) (File c.args.file.now ∷ []) None c.in-Err.ensures.world

pub returns-in-Err-clause-writes : goal.returns-in-Err-clause-writes
returns-in-Err-clause-writes g c =
    unread_writes (λ (setup : Setup). setup) setup_in (g.W.World.text c.args.world.now c.args.config.now) (g.W.World.state c.args.world.now)
    (g.W.World.state c.open_config.new.world) c.in-Err.ended
    c.in-Err.ensures.config _
