use Rattle.std.proofs.Common.{◌≡◌, ℕ, List, ◌∙◌, ap, sym, subst, inl, inr}
use Rattle.std.specs.Prelude.{Option, Some, IsSome, IfSome}
use Rattle.outside.specs.Worlds.{WorldState}
use Rattle.outside.specs.declared.world.Opening.{Opening}
use Rattle.outside.specs.Openings.{Gives}
use Rattle.command_words.specs.declared.command.Command.{Command}
use Rattle.command_inputs.specs.declared.ended.Ended.{Ended}
use Rattle.command_inputs.specs.declared.ended.Ended.TheVariants.{Done, Failed, TooLong}
use Rattle.serving.specs.ServiceEnds.{HaveServedJust}
use Rattle.gnap_tool.specs.Openings.{openings_of, quota_of, input_place}
use Rattle.command_inputs.specs.Ends.{status_of}
use Rattle.world_uses.specs.Uses.{UsesWorld, InputTook}
use Rattle.gnap_tool.specs.Completeness.{NothingWentWrong, IsCompleted}
use Rattle.gnap_tool.proofs.Completing.{completes}
use Rattle.gnap_tool.proofs.EachCommand.{all_at_0}
use Rattle.world_uses.proofs.Uses.{failed_at_4, full_at_8, whole_at_0, short_at_4, to_end_at_0, configs_at_7, done_at_0}
use Rattle.gnap_tool.proofs.commands.run.Goals as goal

-- where nothing went wrong in a command, in a world and with a count that are the same
right_at : (command named : Command) (before between after : WorldState) (count count_between count_now : ℕ) → command ≡ named → before ≡ between
    → count ≡ count_between
    → NothingWentWrong command before after count count_now → NothingWentWrong named between after count_between count_now
right_at command named before between after count count_between count_now same was counted right =
    subst (λ (n : ℕ). NothingWentWrong named between after n count_now) counted
    (subst (λ (w : WorldState). NothingWentWrong named w after count count_now) was
    (subst (λ (k : Command). NothingWentWrong k before after count count_now) same right))

-- what was done to a world that was left as it was, was done to the first one
used_first : (openings : List Opening) (input : Option ℕ) (before between after : WorldState) (ended : Ended) → between ≡ before
    → UsesWorld openings input between after ended → UsesWorld openings input before after ended
used_first openings input before between after ended is uses = subst (λ (w : WorldState). UsesWorld openings input w after ended) is uses

pub returns-in-Err-clause-reads : goal.returns-in-Err-clause-reads
returns-in-Err-clause-reads g c = λ is.
    let ended = c.carry_out_with_workers-ended.result in
    let uses = used_first _ _ _ _ _ ended (ap g.W.World.state c.in-Err.ensures.untouched.0) c.carry_out_with_workers-ended.ensures.world in
    failed_at_4 _ _ _ _ ended uses (sym c.finish.ensures ∙ is)

pub returns-in-Err-clause-no_reads : goal.returns-in-Err-clause-no_reads
returns-in-Err-clause-no_reads g c = λ isnt.
    let ended = c.carry_out_with_workers-ended.result in
    let uses = used_first _ _ _ _ _ ended (ap g.W.World.state c.in-Err.ensures.untouched.0) c.carry_out_with_workers-ended.ensures.world in
    uses.sound (λ failed. isnt (c.finish.ensures ∙ ap status_of failed))

pub returns-in-Err-clause-full : goal.returns-in-Err-clause-full
returns-in-Err-clause-full g c = λ is command found.
    let ended = c.carry_out_with_workers-ended.result in
    let uses = used_first _ _ _ _ _ ended (ap g.W.World.state c.in-Err.ensures.untouched.0) c.carry_out_with_workers-ended.ensures.world in
    let both : Some c.in-Err.command ≡ Some command = sym c.in-Err.ensures.left.0 ∙ found in
    let same : c.in-Err.command ≡ command = cc in
    let P : Command → Type 0 = λ k.
    IsSome (input_place k) × InputTook TooLong (input_place k) (g.W.World.state c.args.world.now) (g.W.World.state c.carry_out_with_workers-ended.new.world) in
    subst P same (full_at_8 _ _ _ _ ended uses (sym c.finish.ensures ∙ is))

pub returns-in-Err-clause-all : goal.returns-in-Err-clause-all
returns-in-Err-clause-all g c = λ is command found.
    let ended = c.carry_out_with_workers-ended.result in
    let uses = used_first _ _ _ _ _ ended (ap g.W.World.state c.in-Err.ensures.untouched.0) c.carry_out_with_workers-ended.ensures.world in
    let both : Some c.in-Err.command ≡ Some command = sym c.in-Err.ensures.left.0 ∙ found in
    let same : c.in-Err.command ≡ command = cc in
    let P : Command → Type 0 = λ k. Gives (openings_of k) (g.W.World.state c.args.world.now) (g.W.World.state c.carry_out_with_workers-ended.new.world) in
    subst P same (all_at_0 _ _ _ _ ended uses
    (elim is [ inl zero ↦ inl (sym c.finish.ensures ∙ zero) | inr seven ↦ inr (sym c.finish.ensures ∙ seven) ]))

pub returns-in-Err-clause-whole : goal.returns-in-Err-clause-whole
returns-in-Err-clause-whole g c = λ is command found.
    let ended = c.carry_out_with_workers-ended.result in
    let uses = used_first _ _ _ _ _ ended (ap g.W.World.state c.in-Err.ensures.untouched.0) c.carry_out_with_workers-ended.ensures.world in
    let both : Some c.in-Err.command ≡ Some command = sym c.in-Err.ensures.left.0 ∙ found in
    let same : c.in-Err.command ≡ command = cc in
    let P : Command → Type 0 = λ k.
    InputTook Done (input_place k) (g.W.World.state c.args.world.now) (g.W.World.state c.carry_out_with_workers-ended.new.world) in
    subst P same (whole_at_0 _ _ _ _ ended uses
    (elim is [ inl zero ↦ inl (sym c.finish.ensures ∙ zero) | inr seven ↦ inr (sym c.finish.ensures ∙ seven) ]))

pub returns-in-Err-clause-short : goal.returns-in-Err-clause-short
returns-in-Err-clause-short g c = λ is command found.
    let ended = c.carry_out_with_workers-ended.result in
    let uses = used_first _ _ _ _ _ ended (ap g.W.World.state c.in-Err.ensures.untouched.0) c.carry_out_with_workers-ended.ensures.world in
    let both : Some c.in-Err.command ≡ Some command = sym c.in-Err.ensures.left.0 ∙ found in
    let same : c.in-Err.command ≡ command = cc in
    let P : Command → Type 0 = λ k.
    InputTook Failed (input_place k) (g.W.World.state c.args.world.now) (g.W.World.state c.carry_out_with_workers-ended.new.world) in
    subst P same (short_at_4 _ _ _ _ ended uses (sym c.finish.ensures ∙ is))

pub returns-in-Err-clause-configs : goal.returns-in-Err-clause-configs
returns-in-Err-clause-configs g c = λ is.
    let ended = c.carry_out_with_workers-ended.result in
    let uses = used_first _ _ _ _ _ ended (ap g.W.World.state c.in-Err.ensures.untouched.0) c.carry_out_with_workers-ended.ensures.world in
    configs_at_7 _ _ _ _ ended uses (sym c.finish.ensures ∙ is)

pub returns-in-Err-clause-to_end : goal.returns-in-Err-clause-to_end
returns-in-Err-clause-to_end g c = λ is.
    let ended = c.carry_out_with_workers-ended.result in
    let uses = used_first _ _ _ _ _ ended (ap g.W.World.state c.in-Err.ensures.untouched.0) c.carry_out_with_workers-ended.ensures.world in
    to_end_at_0 _ _ _ _ ended uses (sym c.finish.ensures ∙ is)

pub returns-in-Err-clause-complete : goal.returns-in-Err-clause-complete
returns-in-Err-clause-complete g c = λ command found right.
    let ended = c.carry_out_with_workers-ended.result in
    let both : Some c.in-Err.command ≡ Some command = sym c.in-Err.ensures.left.0 ∙ found in
    let same : c.in-Err.command ≡ command = cc in
    let was = ap g.W.World.state c.in-Err.ensures.untouched.0 in
    let counted = ap g.O.Device.faults c.in-Err.ensures.untouched.1 in
    subst IsCompleted (sym c.finish.ensures)
    (completes _ _ _ _ _ _ _ _ ended c.carry_out_with_workers-ended.ensures.carried c.carry_out_with_workers-ended.ensures.world
    c.carry_out_with_workers-ended.ensures.writes (right_at _ _ _ _ _ _ _ _ (sym same) (sym was) (sym counted) right))

pub carry_out_with_workers-ended-requires-clause-ranges : goal.carry_out_with_workers-ended-requires-clause-ranges
carry_out_with_workers-ended-requires-clause-ranges g c κs within = c.in-Err.ensures.ranges

pub carry_out_with_workers-ended-requires-clause-workers : goal.carry_out_with_workers-ended-requires-clause-workers
carry_out_with_workers-ended-requires-clause-workers g c κs within = c.in-Err.ensures.left.1

pub returns-in-Err-clause-quota : goal.returns-in-Err-clause-quota
returns-in-Err-clause-quota g c = λ gives is command found.
    let both : Some c.in-Err.command ≡ Some command = sym c.in-Err.ensures.left.0 ∙ found in
    let same : c.in-Err.command ≡ command = cc in
    let P : Command → Type 0 = λ k. IfSome (quota_of k) (λ quota. HaveServedJust quota (g.W.World.state c.carry_out_with_workers-ended.new.world).gears) in
    subst P same (c.carry_out_with_workers-ended.ensures.quota gives (done_at_0 c.carry_out_with_workers-ended.result (sym c.finish.ensures ∙ is)))
