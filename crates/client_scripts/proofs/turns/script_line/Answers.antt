use Rattle.client_scripts.proofs.LineTurns.{unread_turn}
use Rattle.client_scripts.proofs.turns.script_line.Goals as goal

pub returns-in-Ok : goal.returns-in-Ok
returns-in-Ok g c = c.step_said-said.ensures c.args.number c.args.line.now c.in-Ok.ensures.value

pub returns-in-Err : goal.returns-in-Err
returns-in-Err g c = unread_turn c.args.number c.args.line.now c.args.client.now _ c.in-Err.fault c.unread_said.result
    c.in-Err.ensures.value c.unread_said.ensures
