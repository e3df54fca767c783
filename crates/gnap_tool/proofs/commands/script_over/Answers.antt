use Rattle.std.proofs.Common.{ℕ, ap, subst, inl, refl}
use Rattle.outside.specs.Outside.{served_of}
use Rattle.command_inputs.specs.Ends.{CountsReads}
use Rattle.world_uses.proofs.Uses.{unopened_used, fault_ends, opened_used, opened_over}
use Rattle.gnap_tool.proofs.commands.script_over.Goals as goal

pub returns-in-Err-clause-over : goal.returns-in-Err-clause-over
returns-in-Err-clause-over g c = inl
    (ap (λ s. s.files) c.in-Err.ensures.state, ((refl, fault_ends c.in-Err.fault c.ended_by_fault.result c.ended_by_fault.ensures), c.requires.unasked))

pub returns-in-Err-clause-world : goal.returns-in-Err-clause-world
returns-in-Err-clause-world g c = unopened_used _ _ _ _ c.in-Err.fault _ c.ended_by_fault.ensures c.in-Err.ensures.state c.in-Err.ensures.file

pub returns-in-Ok-clause-over : goal.returns-in-Ok-clause-over
returns-in-Ok-clause-over g c =
    let source = c.run_script-ended.new.source in
    let file = served_of (g.W.File.Device.told source) (g.W.File.Device.faults source) in
    opened_over file _ _ _ _ _ _ _ _ c.in-Ok.ensures.state c.close_file.ensures.state c.in-Ok.ensures.file.1 c.run_script-ended.ensures.leaves
    c.run_script-ended.ensures.script

pub returns-in-Ok-clause-world : goal.returns-in-Ok-clause-world
returns-in-Ok-clause-world g c =
    let source = c.run_script-ended.new.source in
    let file = served_of (g.W.File.Device.told source) (g.W.File.Device.faults source) in
    let R : ℕ → Type 0 = λ n. CountsReads c.run_script-ended.result n (g.W.File.Device.faults source) in
    opened_used _ file _ _ _ c.run_script-ended.result c.in-Ok.ensures.state c.close_file.ensures.state
    (subst R c.in-Ok.ensures.file.0 c.run_script-ended.ensures.reads) _ (λ some. c.run_script-ended.ensures.took)
    (λ is. refl) c.run_script-ended.ensures.end
