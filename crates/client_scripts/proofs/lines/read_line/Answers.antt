use Rattle.client_scripts.proofs.LineTexts.{text_step}
use Rattle.client_scripts.proofs.lines.read_line.Goals as goal

pub returns-in-Ok-clause-value : goal.returns-in-Ok-clause-value
returns-in-Ok-clause-value c = rw (text_step c.args.number c.args.line.now _ c.in-Ok.ensures.ok.0 c.in-Ok.ensures.ok.1) c.object_step.ensures.value
