use Rattle.std.proofs.Common.{◌∙◌, ℕ, ap, subst, inl}
use Rattle.outside.specs.Outside.{served_of}
use Rattle.command_inputs.specs.Ends.{CountsReads}
use Rattle.world_uses.specs.ConfigFiles.{ended_by}
use Rattle.world_uses.proofs.Uses.{unopened_used, opened_used, opened_over}
use Rattle.world_uses.proofs.AfterConfig.{unopened_config, config_unlimited, config_to_end}
use Rattle.world_uses.proofs.config_files.open_text.Goals as goal

pub returns-in-Err-clause-world : goal.returns-in-Err-clause-world
returns-in-Err-clause-world g c = unopened_used _ _ _ _ c.in-Err.fault _ c.ended_by_fault.ensures c.in-Err.ensures.state c.in-Err.ensures.file

pub returns-in-Err-clause-config : goal.returns-in-Err-clause-config
returns-in-Err-clause-config g c =
    inl (ap (λ s. s.files) c.in-Err.ensures.state, unopened_config c.in-Err.fault c.ended_by_fault.result c.ended_by_fault.ensures)

pub returns-in-Ok-clause-config : goal.returns-in-Ok-clause-config
returns-in-Ok-clause-config g c =
    let source = c.read_config-text.new.source in
    let file = served_of (g.W.File.Device.told source) (g.W.File.Device.faults source) in
    opened_over file _ _ _ _ _ _ _ _ c.in-Ok.ensures.state c.close_file.ensures.state c.in-Ok.ensures.file.1 c.read_config-text.ensures.leaves
    c.read_config-text.ensures.text

pub returns-in-Ok-clause-world : goal.returns-in-Ok-clause-world
returns-in-Ok-clause-world g c =
    let source = c.read_config-text.new.source in
    let told = g.W.File.Device.told source in
    let result = c.read_config-text.result in
    let gives = c.read_config-text.ensures.text in
    let file = served_of told (g.W.File.Device.faults source) in
    let R : ℕ → Type 0 = λ n. CountsReads (ended_by result) n (g.W.File.Device.faults source) in
    opened_used _ file _ _ _ (ended_by result) c.in-Ok.ensures.state c.close_file.ensures.state
    (subst R c.in-Ok.ensures.file.0 c.read_config-text.ensures.reads) _ (λ some. absurd cc)
    (λ is. absurd (config_unlimited result told gives is)) (config_to_end result told gives c.read_config-text.ensures.end)

pub returns-in-Ok-clause-text : goal.returns-in-Ok-clause-text
returns-in-Ok-clause-text g c = c.close_file.ensures.text ∙ c.in-Ok.ensures.text
