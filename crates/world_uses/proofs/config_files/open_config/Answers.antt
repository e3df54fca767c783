use Rattle.command_inputs.specs.Configs.{config_in}
use Rattle.command_inputs.proofs.ConfigTexts.{config_long}
use Rattle.world_uses.proofs.AfterConfig.{config_read_as, config_unread, uses_read}
use Rattle.world_uses.proofs.config_files.open_config.Goals as goal

pub returns-in-Ok-clause-config : goal.returns-in-Ok-clause-config
returns-in-Ok-clause-config g c =
    config_read_as g.R.ConfigReader.view (config_in (g.R.ConfigReader.reading c.args.reader.now)) (g.W.World.text c.args.world.now c.args.file.now)
    (g.W.World.state c.args.world.now) (g.W.World.state c.open_text.new.world) c.in-Ok.text c.config_in.result c.in-Ok.ensures.config c.config_in.ensures.value

pub returns-in-Ok-clause-world : goal.returns-in-Ok-clause-world
returns-in-Ok-clause-world g c =
    uses_read g.R.ConfigReader.view _ _ _
    (config_in (g.R.ConfigReader.reading c.args.reader.now) c.in-Ok.text) c.config_in.result c.in-Ok.ensures.world c.config_in.ensures.value

pub returns-in-Err-clause-config : goal.returns-in-Err-clause-config
returns-in-Err-clause-config g c =
    config_unread g.R.ConfigReader.view (config_in (g.R.ConfigReader.reading c.args.reader.now)) (g.W.World.text c.args.world.now c.args.file.now)
    (g.W.World.state c.args.world.now) (g.W.World.state c.open_text.new.world)
    (config_long (g.R.ConfigReader.reading c.args.reader.now)) c.in-Err.ended c.in-Err.ensures.config
