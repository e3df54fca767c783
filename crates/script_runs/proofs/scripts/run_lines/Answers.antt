use Rattle.std.proofs.Common.{◌∙◌, ◌∷◌, ap, sym, subst, refl, arith, length, length-append}
use Rattle.command_inputs.specs.Reading.{held_by}
use Rattle.command_inputs.specs.declared.ended.Ended.{Ended}
use Rattle.command_inputs.specs.Ends.{CountsReads, CountsWrites, EndsAt}
use Rattle.command_inputs.specs.LineRuns.{RunsLines}
use Rattle.script_runs.specs.Scripts.{ScriptHad, EndsScript}
use Rattle.command_inputs.proofs.LineStops.{not_long, read_counts, stopped_reads, stopped_writes, stopped_at, last_counts, stops-at, whole_parts, last_parts, line_later}
use Rattle.script_runs.proofs.ScriptLines.{script-start, script-next, script-behind, script-last, script-starved, script-cut, script_reads, script_writes, script_at_end, as_stopped, kept_line, says_full, empty_line}
use Rattle.script_runs.proofs.scripts.run_lines.Goals as goal

pub lines-init : goal.lines-init
lines-init g c = record {
  empty = c.new-line.ensures;
  goes = script-start _ _ _ _ _ _ c.requires.held;
  reads = refl;
  writes = refl;
}

-- ---- the reading of a line stopped

pub returns-in-Some-clause-runs : goal.returns-in-Some-clause-runs
returns-in-Some-clause-runs g c =
    let is = sym c.in-Some.ensures in
    as_stopped _ _ _ _ _ _ _ _ c.next_line-end.result c.in-Some.ended is
    (stops-at _ _ _ _ _ _ _ _ _ c.lines.invariant.goes.goes _ _ _ _ _ c.next_line-end.result c.in-Some.ended is c.next_line-end.ensures.read)

pub returns-in-Some-clause-reads : goal.returns-in-Some-clause-reads
returns-in-Some-clause-reads g c =
    stopped_reads c.next_line-end.result c.in-Some.ended _ _ _ (sym c.in-Some.ensures) c.lines.invariant.reads c.next_line-end.ensures.cause

pub returns-in-Some-clause-writes : goal.returns-in-Some-clause-writes
returns-in-Some-clause-writes g c = stopped_writes c.next_line-end.result c.in-Some.ended _ _ (sym c.in-Some.ensures) c.lines.invariant.writes

pub returns-in-Some-clause-took : goal.returns-in-Some-clause-took
returns-in-Some-clause-took g c = stopped_at c.next_line-end.result c.in-Some.ended _ _ (sym c.in-Some.ensures) c.next_line-end.ensures.full

-- ---- nothing stands behind the last LF

pub returns-then-is_behind_last-clause-runs : goal.returns-then-is_behind_last-clause-runs
returns-then-is_behind_last-clause-runs g c =
    let inv = c.lines.invariant in
    let read = c.next_line-end.ensures.read in
    let none = sym c.in_default.ensures in
    let short = not_long c.next_line-end.result c.next_line-end.ensures.long in
    let same = kept_line _ _ _ _ _ _ _ _ _ _ _ _ _ _ inv.goes _ _ _ _ c.next_line-end.result none short read c.next_line-end.new.self.limited in
    let behind = c.is_behind_last.ensures.nothing c.if-is_behind_last.true in
    let parts = last_parts _ _ _ _ _ _ _ _ c.next_line-end.result behind.0 read in
    let R : Ended → Type 0 = λ ended. RunsLines
    (ScriptHad c.args.client.now (g.L.Link.link c.args.link.now).asked c.lines.client (g.L.Link.link c.lines.link).asked) EndsScript
    (held_by c.args.reader.now) c.args.reader.now.taken c.next_line-end.new.self.taken
    (g.S.Device.told c.args.source.now) (g.S.Device.told c.next_line-end.new.source) (g.O.Device.told c.args.out.now) (g.O.Device.told c.lines.out) ended in
    subst R (sym c.ended_script.ensures)
    (script-behind _ _ _ _ _ _ _ _ _ _ _ _ _ _ inv.goes read.bytes _ _ read.came (parts.0 ∙ empty_line read.full (sym (ap length same) ∙ behind.1)) parts.2)

pub returns-then-is_behind_last-clause-reads : goal.returns-then-is_behind_last-clause-reads
returns-then-is_behind_last-clause-reads g c =
    let R : Ended → Type 0 = λ ended. CountsReads ended (g.S.Device.faults c.args.source.now) (g.S.Device.faults c.next_line-end.new.source) in
    subst R (sym c.ended_script.ensures)
    (script_reads _ _ _ (read_counts c.next_line-end.result _ _ (sym c.in_default.ensures) c.next_line-end.ensures.cause ∙ c.lines.invariant.reads))

pub returns-then-is_behind_last-clause-writes : goal.returns-then-is_behind_last-clause-writes
returns-then-is_behind_last-clause-writes g c =
    let R : Ended → Type 0 = λ ended. CountsWrites ended (g.O.Device.faults c.args.out.now) (g.O.Device.faults c.lines.out) in
    subst R (sym c.ended_script.ensures) (script_writes _ _ _ c.lines.invariant.writes)

pub returns-then-is_behind_last-clause-took : goal.returns-then-is_behind_last-clause-took
returns-then-is_behind_last-clause-took g c =
    let behind = c.is_behind_last.ensures.nothing c.if-is_behind_last.true in
    let R : Ended → Type 0 = λ ended. EndsAt ended c.next_line-end.new.self.taken (g.S.Device.told c.next_line-end.new.source) in
    subst R (sym c.ended_script.ensures)
    (script_at_end _ _ _ (last_counts c.next_line-end.result _ behind.0 c.next_line-end.ensures.full)
    (last_parts _ _ _ _ _ _ _ _ c.next_line-end.result behind.0 c.next_line-end.ensures.read).2)

-- ---- a line had its turn

pub overflow_add-number : goal.overflow_add-number
overflow_add-number g c =
    let inv = c.lines.invariant in
    let few = inv.goes.goes.few in
    let count = inv.goes.number_is in
    let more = c.next_line-end.ensures.read.came.counted in
    let most = c.next_line-end.new.self.limited in
    omega (arith, few, count, more, most)

pub lines-smaller : goal.lines-smaller
lines-smaller g c =
    let read = c.next_line-end.ensures.read in
    let most = c.next_line-end.new.self.limited in
    let short = not_long c.next_line-end.result c.next_line-end.ensures.long in
    let parts = whole_parts _ _ _ _ _ _ _ _ c.next_line-end.result (sym c.in_default.ensures) (sym c.is_last.ensures ∙ c.if-is_last.false) short read in
    omega (
      arith,
      most,
      read.came.counted,
      ap length parts,
      length-append (held_by c.lines.reader) read.bytes,
      length-append read.full
          (10 ∷ held_by c.next_line-end.new.self),
    )

pub lines-preserved : goal.lines-preserved
lines-preserved g c =
    let inv = c.lines.invariant in
    let read = c.next_line-end.ensures.read in
    let none = sym c.in_default.ensures in
    let short = not_long c.next_line-end.result c.next_line-end.ensures.long in
    let says = says_full _ _ _ _ _ _ _ _ _ _ _ _ _ _ inv.goes _ _ _ _ c.next_line-end.result none short read c.next_line-end.new.self.limited _ _ _ _ _ _
    c.in-On.ensures.says in
    let parts = whole_parts _ _ _ _ _ _ _ _ c.next_line-end.result none (sym c.is_last.ensures ∙ c.if-is_last.false) short read in
    record {
      empty = c.emptied-line.ensures;
      goes = script-next _ _ _ _ _ _ _ _ _ _ _ _ _ _ inv.goes read.full read.bytes _ _ _ _ _ _ refl says _ _ _ read.came read.is_line parts says.goes
          says.prints;
      reads = read_counts c.next_line-end.result _ _ none c.next_line-end.ensures.cause ∙ inv.reads;
      writes = c.in-On.ensures.counts ∙ inv.writes;
    }

pub returns-then-is_last-clause-runs : goal.returns-then-is_last-clause-runs
returns-then-is_last-clause-runs g c =
    let inv = c.lines.invariant in
    let read = c.next_line-end.ensures.read in
    let none = sym c.in_default.ensures in
    let short = not_long c.next_line-end.result c.next_line-end.ensures.long in
    let says = says_full _ _ _ _ _ _ _ _ _ _ _ _ _ _ inv.goes _ _ _ _ c.next_line-end.result none short read c.next_line-end.new.self.limited _ _ _ _ _ _
    c.in-On.ensures.says in
    let last = sym c.is_last.ensures ∙ c.if-is_last.true in
    let parts = last_parts _ _ _ _ _ _ _ _ c.next_line-end.result last read in
    let some = c.is_behind_last.ensures.some c.if-is_behind_last.false last in
    let same = kept_line _ _ _ _ _ _ _ _ _ _ _ _ _ _ inv.goes _ _ _ _ c.next_line-end.result none short read c.next_line-end.new.self.limited in
    let R : Ended → Type 0 = λ ended. RunsLines
    (ScriptHad c.args.client.now (g.L.Link.link c.args.link.now).asked c.say_line.new.client (g.L.Link.link c.say_line.new.link).asked) EndsScript
    (held_by c.args.reader.now) c.args.reader.now.taken c.next_line-end.new.self.taken
    (g.S.Device.told c.args.source.now) (g.S.Device.told c.next_line-end.new.source) (g.O.Device.told c.args.out.now) (g.O.Device.told c.say_line.new.out)
    ended in
    subst R (sym c.ended_script-then-is_last.ensures)
    (script-last _ _ _ _ _ _ _ _ _ _ _ _ _ _ inv.goes read.full read.bytes _ _ _ _ _ _ refl says _ _ read.came read.is_line parts.0 parts.2
    (λ zero. some (ap length same ∙ zero)) says.goes says.prints)

pub returns-then-is_last-clause-reads : goal.returns-then-is_last-clause-reads
returns-then-is_last-clause-reads g c =
    let R : Ended → Type 0 = λ ended. CountsReads ended (g.S.Device.faults c.args.source.now) (g.S.Device.faults c.next_line-end.new.source) in
    subst R (sym c.ended_script-then-is_last.ensures)
    (script_reads _ _ _ (read_counts c.next_line-end.result _ _ (sym c.in_default.ensures) c.next_line-end.ensures.cause ∙ c.lines.invariant.reads))

pub returns-then-is_last-clause-writes : goal.returns-then-is_last-clause-writes
returns-then-is_last-clause-writes g c =
    let R : Ended → Type 0 = λ ended. CountsWrites ended (g.O.Device.faults c.args.out.now) (g.O.Device.faults c.say_line.new.out) in
    subst R (sym c.ended_script-then-is_last.ensures) (script_writes _ _ _ (c.in-On.ensures.counts ∙ c.lines.invariant.writes))

pub returns-then-is_last-clause-took : goal.returns-then-is_last-clause-took
returns-then-is_last-clause-took g c =
    let last = sym c.is_last.ensures ∙ c.if-is_last.true in
    let R : Ended → Type 0 = λ ended. EndsAt ended c.next_line-end.new.self.taken (g.S.Device.told c.next_line-end.new.source) in
    subst R (sym c.ended_script-then-is_last.ensures)
    (script_at_end _ _ _ (last_counts c.next_line-end.result _ last c.next_line-end.ensures.full)
    (last_parts _ _ _ _ _ _ _ _ c.next_line-end.result last c.next_line-end.ensures.read).2)

pub returns-in-Starved-clause-runs : goal.returns-in-Starved-clause-runs
returns-in-Starved-clause-runs g c =
    let inv = c.lines.invariant in
    let read = c.next_line-end.ensures.read in
    let none = sym c.in_default.ensures in
    let short = not_long c.next_line-end.result c.next_line-end.ensures.long in
    let says = says_full _ _ _ _ _ _ _ _ _ _ _ _ _ _ inv.goes _ _ _ _ c.next_line-end.result none short read c.next_line-end.new.self.limited _ _ _ _ _ _
    c.in-Starved.ensures.says in
    script-starved _ _ _ _ _ _ _ _ _ _ _ _ _ _ inv.goes read.full read.bytes _ _ _ _ _ _ refl says _ _ read.came read.is_line
    (line_later _ _ _ _ _ _ _ _ c.next_line-end.result none short read) says.prints

pub returns-in-Starved-clause-reads : goal.returns-in-Starved-clause-reads
returns-in-Starved-clause-reads g c = read_counts c.next_line-end.result _ _ (sym c.in_default.ensures) c.next_line-end.ensures.cause ∙ c.lines.invariant.reads

pub returns-in-Cut-clause-runs : goal.returns-in-Cut-clause-runs
returns-in-Cut-clause-runs g c =
    let inv = c.lines.invariant in
    let read = c.next_line-end.ensures.read in
    let none = sym c.in_default.ensures in
    let short = not_long c.next_line-end.result c.next_line-end.ensures.long in
    let says = says_full _ _ _ _ _ _ _ _ _ _ _ _ _ _ inv.goes _ _ _ _ c.next_line-end.result none short read c.next_line-end.new.self.limited _ _ _ _ _ _
    c.in-Cut.ensures.says in
    script-cut _ _ _ _ _ _ _ _ _ _ _ _ _ _ inv.goes read.full read.bytes _ _ _ _ _ _ refl says _ _ read.came read.is_line
    (line_later _ _ _ _ _ _ _ _ c.next_line-end.result none short read) says.prints

pub returns-in-Cut-clause-reads : goal.returns-in-Cut-clause-reads
returns-in-Cut-clause-reads g c = read_counts c.next_line-end.result _ _ (sym c.in_default.ensures) c.next_line-end.ensures.cause ∙ c.lines.invariant.reads
