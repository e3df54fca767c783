use Rattle.command_inputs.proofs.Inputs.{leaves_taken}
use Rattle.script_runs.proofs.ScriptLines.{script_account, script_took, script_done}
use Rattle.script_runs.proofs.scripts.run_script.Goals as goal

pub returns-clause-script : goal.returns-clause-script
returns-clause-script g c = λ rest known.
    script_account _ _ _ _ _ _ _ _ _ _ _ c.run_lines.result c.requires.unasked c.new-reader.ensures.held c.requires.fresh c.run_lines.ensures.runs rest known

pub returns-clause-leaves : goal.returns-clause-leaves
returns-clause-leaves g c = leaves_taken _ _ _ c.requires.fresh c.run_lines.ensures.runs.came.takes

pub returns-clause-took : goal.returns-clause-took
returns-clause-took g c =
    script_took _ _ _ _ _ c.run_lines.result c.requires.fresh c.new-reader.ensures.taken c.run_lines.ensures.runs.came c.run_lines.ensures.took

pub returns-clause-end : goal.returns-clause-end
returns-clause-end g c = λ is. script_done c.run_lines.result _ _ c.run_lines.ensures.took is
