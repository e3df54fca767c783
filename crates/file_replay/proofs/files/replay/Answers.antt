use Rattle.std.proofs.Common.{[], refl, arith, inl, inr}
use Rattle.histories.specs.Histories.{legal-nil}
use Rattle.grant_machine.specs.Gnap.{gnap}
use Rattle.command_inputs.specs.declared.ended.Ended.TheVariants.{Failed, TooLong}
use Rattle.command_inputs.specs.declared.line_end.LineEnd.TheVariants as line_ends
use Rattle.file_replay.proofs.ReplayedFiles.{whole_replayed, last_replayed, long_replayed, failed_replayed, full_replayed, starved_replayed, took_all, alone_at}
use Rattle.command_inputs.proofs.Inputs.{leaves_taken, leaves_more}
use Rattle.command_inputs.proofs.Reading.{came-none}
use Rattle.file_replay.proofs.files.replay.Goals as goal

pub returns-in-Whole-clause-replays : goal.returns-in-Whole-clause-replays
returns-in-Whole-clause-replays g c = λ rest known.
    whole_replayed _ _ _ _ _ _ _ c.new-reader.ensures.held c.requires.fresh c.new-reader.ensures.taken c.in-Whole.ensures.read _ _ _ _ _ c.replay_after.result
    c.replay_after.ensures.came.1 c.replay_after.new.reader.limited c.replay_after.ensures.replays c.replay_after.ensures.no_setup
    (λ setup h legal few. c.what_holds.ensures setup h legal few) rest known

pub returns-in-Whole-clause-took : goal.returns-in-Whole-clause-took
returns-in-Whole-clause-took g c =
    took_all _ _ _ _ _ _ _ c.new-reader.ensures.held c.requires.fresh c.new-reader.ensures.taken line_ends.Whole c.in-Whole.ensures.read _ _ _
    c.replay_after.ensures.came.1
    c.replay_after.result c.replay_after.ensures.took

pub returns-in-Last-clause-replays : goal.returns-in-Last-clause-replays
returns-in-Last-clause-replays g c = λ rest known.
    last_replayed _ _ _ _ _ _ _ c.new-reader.ensures.held c.requires.fresh c.new-reader.ensures.taken c.in-Last.ensures.read _ c.only_setup.result
    c.only_setup.ensures
    (λ setup. c.what_holds.ensures setup [] (legal-nil gnap setup) (omega arith)) rest known

pub returns-in-Last-clause-took : goal.returns-in-Last-clause-took
returns-in-Last-clause-took g c =
    let read = c.in-Last.ensures.read in
    took_all _ _ _ _ _ _ _ c.new-reader.ensures.held c.requires.fresh c.new-reader.ensures.taken line_ends.Last read [] _ _ (came-none _ _)
    c.only_setup.result (alone_at _ c.only_setup.result _ _ c.only_setup.ensures c.in-Last.ensures.full read.ends.2)

pub returns-in-Long-clause-replays : goal.returns-in-Long-clause-replays
returns-in-Long-clause-replays g c = λ rest known.
    long_replayed _ _ _ _ _ _ _ c.new-reader.ensures.held c.requires.fresh c.new-reader.ensures.taken c.in-Long.ensures.read
    (c.in-Long.ensures.long refl).1 _ _ rest

pub returns-in-Full-clause-replays : goal.returns-in-Full-clause-replays
returns-in-Full-clause-replays g c = λ rest known.
    full_replayed _ _ _ _ _ _ _ c.new-reader.ensures.held c.requires.fresh c.new-reader.ensures.taken c.in-Full.ensures.read
    (c.in-Full.ensures.short (inl refl) refl) c.in-Full.ensures.full _ rest

pub returns-in-Full-clause-took : goal.returns-in-Full-clause-took
returns-in-Full-clause-took g c =
    took_all _ _ _ _ _ _ _ c.new-reader.ensures.held c.requires.fresh c.new-reader.ensures.taken line_ends.Full c.in-Full.ensures.read [] _ _
    (came-none _ _) TooLong
    c.in-Full.ensures.full

pub returns-in-Failed-clause-replays : goal.returns-in-Failed-clause-replays
returns-in-Failed-clause-replays g c = λ rest known.
    failed_replayed _ _ _ _ _ _ _ c.new-reader.ensures.held c.requires.fresh c.new-reader.ensures.taken c.in-Failed.ensures.read
    (c.in-Failed.ensures.short (inr refl) refl) _ (λ setup. c.what_holds.ensures setup [] (legal-nil gnap setup) (omega arith)) rest

pub returns-in-Failed-clause-took : goal.returns-in-Failed-clause-took
returns-in-Failed-clause-took g c =
    took_all _ _ _ _ _ _ _ c.new-reader.ensures.held c.requires.fresh c.new-reader.ensures.taken line_ends.Failed c.in-Failed.ensures.read [] _ _
    (came-none _ _) Failed
    c.in-Failed.ensures.full

pub returns-clause-replays : goal.returns-clause-replays
returns-clause-replays g c = λ rest known.
    starved_replayed _ rest _ (λ setup. c.what_holds.ensures setup [] (legal-nil gnap setup) (omega arith))

pub returns-in-Whole-clause-leaves : goal.returns-in-Whole-clause-leaves
returns-in-Whole-clause-leaves g c =
    leaves_more _ (g.S.Device.told c.args.source.now) (g.S.Device.told c.next_line.new.source) (g.S.Device.told c.replay_after.new.source)
    (leaves_taken _ (g.S.Device.told c.args.source.now) (g.S.Device.told c.next_line.new.source) c.requires.fresh c.in-Whole.ensures.read.came.takes)
    c.replay_after.ensures.came.1.takes

pub returns-in-Last-clause-leaves : goal.returns-in-Last-clause-leaves
returns-in-Last-clause-leaves g c = leaves_taken _ _ _ c.requires.fresh c.in-Last.ensures.read.came.takes

pub returns-in-Long-clause-leaves : goal.returns-in-Long-clause-leaves
returns-in-Long-clause-leaves g c = leaves_taken _ _ _ c.requires.fresh c.in-Long.ensures.read.came.takes

pub returns-in-Full-clause-leaves : goal.returns-in-Full-clause-leaves
returns-in-Full-clause-leaves g c = leaves_taken _ _ _ c.requires.fresh c.in-Full.ensures.read.came.takes

pub returns-in-Failed-clause-leaves : goal.returns-in-Failed-clause-leaves
returns-in-Failed-clause-leaves g c = leaves_taken _ _ _ c.requires.fresh c.in-Failed.ensures.read.came.takes

pub returns-clause-leaves : goal.returns-clause-leaves
returns-clause-leaves g c = leaves_taken _ _ _ c.requires.fresh c.next_line.ensures.read.came.takes
