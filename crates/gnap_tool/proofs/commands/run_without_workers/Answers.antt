use Rattle.std.proofs.Common.{◌≡◌, ◌∙◌, ap, sym, subst, refl, inl, inr}
use Rattle.std.specs.Prelude.{Some, IsSome, IfSome}
use Rattle.serving.specs.ServiceEnds.{HaveServedJust}
use Rattle.command_words.specs.declared.command.Command.{Command}
use Rattle.command_inputs.specs.declared.ended.Ended.TheVariants.{Done, Failed, Memory, TooLong}
use Rattle.gnap_tool.specs.Openings.{openings_of, quota_of, input_place}
use Rattle.command_inputs.specs.Ends.{status_of}
use Rattle.world_uses.specs.Uses.{InputTook}
use Rattle.world_uses.proofs.Uses.{back-none, unopened_sound, failed_at_4, full_at_8, whole_at_0, short_at_4, to_end_at_0, configs_at_7, done_at_0}
use Rattle.gnap_tool.specs.Completeness.{NothingWentWrong, IsCompleted}
use Rattle.gnap_tool.proofs.Completing.{completes}
use Rattle.gnap_tool.proofs.EachCommand.{starved_carries}
use Rattle.gnap_tool.proofs.commands.run_without_workers.Goals as goal

pub returns-in-Some-clause-reads : goal.returns-in-Some-clause-reads
returns-in-Some-clause-reads g c = λ is. failed_at_4 _ _ _ _ c.in-Some.ended c.in-Some.ensures.world (sym c.finish.ensures ∙ is)

pub returns-in-Some-clause-no_reads : goal.returns-in-Some-clause-no_reads
returns-in-Some-clause-no_reads g c = λ isnt. c.in-Some.ensures.world.sound (λ failed. isnt (c.finish.ensures ∙ ap status_of failed))

pub returns-in-Err-OutOfMemory-clause-no_reads : goal.returns-in-Err-OutOfMemory-clause-no_reads
returns-in-Err-OutOfMemory-clause-no_reads g c = λ isnt. unopened_sound _ _ refl refl

pub returns-in-Some-clause-full : goal.returns-in-Some-clause-full
returns-in-Some-clause-full g c = λ is command found.
    let both : Some c.in-Ok.command ≡ Some command = sym c.in-Ok.ensures.read ∙ found in
    let same : c.in-Ok.command ≡ command = cc in
    let P : Command → Type 0 = λ k.
    IsSome (input_place k) × InputTook TooLong (input_place k) (g.W.World.state c.args.world.now) (g.W.World.state c.carry_out.new.world) in
    subst P same (full_at_8 _ _ _ _ c.in-Some.ended c.in-Some.ensures.world (sym c.finish.ensures ∙ is))

pub returns-in-Some-clause-whole : goal.returns-in-Some-clause-whole
returns-in-Some-clause-whole g c = λ is command found.
    let both : Some c.in-Ok.command ≡ Some command = sym c.in-Ok.ensures.read ∙ found in
    let same : c.in-Ok.command ≡ command = cc in
    let P : Command → Type 0 = λ k.
    InputTook Done (input_place k) (g.W.World.state c.args.world.now) (g.W.World.state c.carry_out.new.world) in
    subst P same (whole_at_0 _ _ _ _ c.in-Some.ended c.in-Some.ensures.world
    (elim is [ inl zero ↦ inl (sym c.finish.ensures ∙ zero) | inr seven ↦ inr (sym c.finish.ensures ∙ seven) ]))

pub returns-in-Err-OutOfMemory-clause-carries : goal.returns-in-Err-OutOfMemory-clause-carries
returns-in-Err-OutOfMemory-clause-carries g c = λ command found. record { ended = Memory; status_is = refl; carried = starved_carries command _ _ _ }

pub returns-in-Err-OutOfMemory-clause-given_back : goal.returns-in-Err-OutOfMemory-clause-given_back
returns-in-Err-OutOfMemory-clause-given_back g c = λ command found. back-none (openings_of command) _ _ refl

pub returns-in-Some-clause-short : goal.returns-in-Some-clause-short
returns-in-Some-clause-short g c = λ is command found.
    let both : Some c.in-Ok.command ≡ Some command = sym c.in-Ok.ensures.read ∙ found in
    let same : c.in-Ok.command ≡ command = cc in
    let P : Command → Type 0 = λ k.
    InputTook Failed (input_place k) (g.W.World.state c.args.world.now) (g.W.World.state c.carry_out.new.world) in
    subst P same (short_at_4 _ _ _ _ c.in-Some.ended c.in-Some.ensures.world (sym c.finish.ensures ∙ is))

pub returns-in-Some-clause-configs : goal.returns-in-Some-clause-configs
returns-in-Some-clause-configs g c = λ is. configs_at_7 _ _ _ _ c.in-Some.ended c.in-Some.ensures.world (sym c.finish.ensures ∙ is)

pub returns-in-Some-clause-to_end : goal.returns-in-Some-clause-to_end
returns-in-Some-clause-to_end g c = λ is. to_end_at_0 _ _ _ _ c.in-Some.ended c.in-Some.ensures.world (sym c.finish.ensures ∙ is)

pub returns-in-Some-clause-complete : goal.returns-in-Some-clause-complete
returns-in-Some-clause-complete g c = λ command found right.
    let both : Some c.in-Ok.command ≡ Some command = sym c.in-Ok.ensures.read ∙ found in
    let same : c.in-Ok.command ≡ command = cc in
    let P : Command → Type 0 = λ k.
    NothingWentWrong k (g.W.World.state c.args.world.now) (g.W.World.state c.carry_out.new.world) (g.O.Device.faults c.args.out.now)
    (g.O.Device.faults c.carry_out.new.out) in
    subst IsCompleted (sym c.finish.ensures)
    (completes _ _ _ _ _ _ _ _ c.in-Some.ended c.in-Some.ensures.carried c.in-Some.ensures.world c.in-Some.ensures.writes (subst P (sym same) right))

pub returns-in-Err-OutOfMemory-clause-complete : goal.returns-in-Err-OutOfMemory-clause-complete
returns-in-Err-OutOfMemory-clause-complete g c = λ command found right. inr (inr refl)

pub returns-in-Some-clause-quota : goal.returns-in-Some-clause-quota
returns-in-Some-clause-quota g c = λ gives is command found.
    let both : Some c.in-Ok.command ≡ Some command = sym c.in-Ok.ensures.read ∙ found in
    let same : c.in-Ok.command ≡ command = cc in
    let P : Command → Type 0 = λ k. IfSome (quota_of k) (λ quota. HaveServedJust quota (g.W.World.state c.carry_out.new.world).gears) in
    subst P same (c.in-Some.ensures.quota gives (done_at_0 c.in-Some.ended (sym c.finish.ensures ∙ is)))
