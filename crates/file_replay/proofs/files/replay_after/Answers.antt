use Rattle.std.proofs.Common.{◌≡◌, ◌∙◌, refl, sym, subst}
use Rattle.std.proofs.lemmas.Option.{same_Some}
use Rattle.histories.specs.History.{Legal}
use Rattle.gnap_model.specs.declared.objects.Setup.{Setup}
use Rattle.histories.specs.Histories.{legal-nil}
use Rattle.grant_machine.specs.Gnap.{gnap}
use Rattle.command_inputs.specs.declared.ended.Ended.{Ended}
use Rattle.call_replay.specs.Replaying.{Turns, Replays, IsLoneHistory}
use Rattle.command_inputs.specs.Reading.{held_by}
use Rattle.file_replay.proofs.ReplayedFiles.{gives_refusal, gives_starved, refusal_reads, refusal_writes, refusal_at}
use Rattle.call_replay.proofs.Going.{none-had, replays-weaker}
use Rattle.command_inputs.proofs.LineRuns.{runs-starved}
use Rattle.file_replay.proofs.files.replay_after.Goals as goal

pub returns-in-Err-clause-replays : goal.returns-in-Err-clause-replays
returns-in-Err-clause-replays g c = λ setup is.
    let R : Ended → Type 0 = λ ended. Replays setup 0 (IsLoneHistory setup) (held_by c.args.reader.now) c.args.reader.now.taken c.args.reader.now.taken
    (g.S.Device.told c.args.source.now) (g.S.Device.told c.args.source.now) (g.O.Device.told c.args.out.now) (g.O.Device.told c.args.out.now) ended in
    subst R (sym (gives_starved setup c.in-Err.ended _ c.in-Err.ensures.value is))
    (runs-starved (Turns setup 0 (IsLoneHistory setup)) _ _ _ _ (none-had setup 0 (IsLoneHistory setup) (legal-nil gnap setup, tt)) c.requires.held)

pub returns-in-Err-clause-no_setup : goal.returns-in-Err-clause-no_setup
returns-in-Err-clause-no_setup g c = λ none. (gives_refusal c.in-Err.ended _ c.in-Err.ensures.value, refl)

pub returns-in-Err-clause-reads : goal.returns-in-Err-clause-reads
returns-in-Err-clause-reads g c = refusal_reads c.in-Err.ended _ (gives_refusal c.in-Err.ended _ c.in-Err.ensures.value)

pub returns-in-Err-clause-writes : goal.returns-in-Err-clause-writes
returns-in-Err-clause-writes g c = refusal_writes c.in-Err.ended _ (gives_refusal c.in-Err.ended _ c.in-Err.ensures.value)

pub returns-in-Err-clause-took : goal.returns-in-Err-clause-took
returns-in-Err-clause-took g c = refusal_at c.in-Err.ended _ _ (gives_refusal c.in-Err.ended _ c.in-Err.ensures.value)

pub returns-in_default-clause-replays : goal.returns-in_default-clause-replays
returns-in_default-clause-replays g c = λ setup is.
    runs-starved (Turns setup 0 (IsLoneHistory setup)) _ _ _ _ (none-had setup 0 (IsLoneHistory setup) (legal-nil gnap setup, tt)) c.requires.held

pub returns-clause-replays : goal.returns-clause-replays
returns-clause-replays g c = λ setup is.
    let read : c.in-Ok.setup ≡ setup = same_Some c.in-Ok.setup setup (sym c.in-Ok.ensures.value ∙ is) in
    let kept = c.replay_lines.ensures.rules ∙ c.table_desk-desk.ensures.rules ∙ c.in-Ok-copy.ensures ∙ read in
    subst (λ (s : Setup). Replays s 0 (IsLoneHistory setup) (held_by c.args.reader.now) c.args.reader.now.taken c.replay_lines.new.reader.taken
    (g.S.Device.told c.args.source.now) (g.S.Device.told c.replay_lines.new.source) (g.O.Device.told c.args.out.now) (g.O.Device.told c.replay_lines.new.out)
    c.replay_lines.result) read
    (replays-weaker c.in-Ok.setup 0 _ (IsLoneHistory setup) _ _ _ _ _ _ _ _
    (λ h seen. (subst (λ (s : Setup). Legal gnap s h) kept seen.0.legal, seen.1)) c.replay_lines.ensures.replays)
