use Rattle.client_scripts.proofs.LineTurns.{answer_turn}
use Rattle.client_scripts.proofs.turns.step_said.Goals as goal

pub returns : goal.returns
returns g c number line says = answer_turn number line c.args.step.now _ _ c.args.client.now c.carry_out-answer.new.client says
    c.carry_out-answer.result _ c.carry_out-answer.ensures (rw c.state.ensures at c.answer_said.ensures)
