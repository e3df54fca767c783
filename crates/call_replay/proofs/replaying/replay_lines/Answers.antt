use Rattle.std.proofs.Common.{◌≡◌, ◌∙◌, ℕ, ◌+◌, ◌<◌, ◌^◌, [], ◌∷◌, ◌++◌, length, ap, sym, subst, refl, arith, length-append}
use Rattle.histories.specs.History.{places}
use Rattle.histories.proofs.TurnLemmas.{length-next}
use Rattle.call_replay.specs.CallLines.{line_step}
use Rattle.command_inputs.specs.Reading.{held_by}
use Rattle.command_inputs.specs.declared.printed_text.After.TheVariants as after
use Rattle.call_replay.specs.Replays.{first_call_line}
use Rattle.call_replay.specs.Replaying.{AnswersLine, Turns}
use Rattle.call_replay.proofs.CallLines.{kept_step}
use Rattle.call_replay.proofs.Going.{none-had, room, had-next}
use Rattle.command_inputs.proofs.LineRuns.{goes-start, goes-next, turned-done, turned-starved, turned-cut}
use Rattle.command_inputs.proofs.LineStops.{not_long, not_starved, read_counts, stopped_reads, stopped_writes, stopped_at, last_counts, stops-at, whole_parts, last_parts, line_later}
use Rattle.call_replay.proofs.replaying.replay_lines.Goals as goal

pub lines-init : goal.lines-init
unfolding goes-start
lines-init g c = record {
  rules = refl;
  number = refl;
  empty = c.new-line.ensures;
  line_number = refl;
  goes = goes-start (Turns c.args.setup.now (g.D.Desk.number c.args.desk.now) (g.D.Desk.seen c.args.desk.now)) _ _ _ _ (none-had _ _ _ c.requires.fresh)
      c.requires.held;
  reads = refl;
  writes = refl;
}

-- ---- the reading of a line stopped

pub returns-in-Some-clause-replays : goal.returns-in-Some-clause-replays
returns-in-Some-clause-replays g c =
    stops-at _ _ _ _ _ _ _ _ _ c.lines.invariant.goes _ _ _ _ _ c.next_line-end.result c.in-Some.ended (sym c.in-Some.ensures) c.next_line-end.ensures.read

pub returns-in-Some-clause-reads : goal.returns-in-Some-clause-reads
returns-in-Some-clause-reads g c =
    stopped_reads c.next_line-end.result c.in-Some.ended _ _ _ (sym c.in-Some.ensures) c.lines.invariant.reads c.next_line-end.ensures.cause

pub returns-in-Some-clause-writes : goal.returns-in-Some-clause-writes
returns-in-Some-clause-writes g c = stopped_writes c.next_line-end.result c.in-Some.ended _ _ (sym c.in-Some.ensures) c.lines.invariant.writes

pub returns-in-Some-clause-took : goal.returns-in-Some-clause-took
returns-in-Some-clause-took g c = stopped_at c.next_line-end.result c.in-Some.ended _ _ (sym c.in-Some.ensures) c.next_line-end.ensures.full

-- ---- a line came to its end

pub answer_line-requires-clause-room : goal.answer_line-requires-clause-room
answer_line-requires-clause-room g c =
    let inv = c.lines.invariant in
    let R : ℕ → Type 0 = λ n. length (places n inv.goes.had.history) < 2 ^ 52 in
    (inv.goes.had.history, inv.goes.had.seen_now, subst R (sym inv.number) (room _ _ _ _ _ _ _ _ _ _ _ inv.goes c.lines.reader.limited))

pub overflow_add-number : goal.overflow_add-number
overflow_add-number g c =
    let inv = c.lines.invariant in
    let few = inv.goes.few in
    let count = inv.line_number in
    let most = c.lines.reader.limited in
    omega (arith, few, count, most)

pub lines-smaller : goal.lines-smaller
lines-smaller g c =
    let read = c.next_line-end.ensures.read in
    let most = c.next_line-end.new.self.limited in
    let none = sym c.in_default.ensures in
    let short = not_long c.next_line-end.result c.next_line-end.ensures.long in
    let parts = whole_parts _ _ _ _ _ _ _ _ c.next_line-end.result none (sym c.is_last.ensures ∙ c.if-is_last.false) short read in
    omega (
      arith,
      most,
      read.came.counted,
      ap length parts,
      length-append (held_by c.lines.reader) read.bytes,
      length-append read.full
          (10 ∷ held_by c.next_line-end.new.self),
    )

pub lines-preserved : goal.lines-preserved
unfolding goes-next
lines-preserved g c =
    let inv = c.lines.invariant in
    let read = c.next_line-end.ensures.read in
    let none = sym c.in_default.ensures in
    let short = not_long c.next_line-end.result c.next_line-end.ensures.long in
    let parts = whole_parts _ _ _ _ _ _ _ _ c.next_line-end.result none (sym c.is_last.ensures ∙ c.if-is_last.false) short read in
    let same = kept_step c.args.setup.now c.lines.number read.full
    ∙ ap (line_step c.args.setup.now c.lines.number) (sym (read.kept (not_starved c.next_line-end.result none))) in
    let A : ℕ → Type 0 = λ n. AnswersLine c.args.setup.now n c.lines.number read.full (g.D.Desk.seen c.answer_line.new.desk) inv.goes.had.history
    (g.O.Device.told c.lines.out) (g.O.Device.told c.answer_line.new.out) after.On in
    let B : ℕ → Type 0 = λ n. AnswersLine c.args.setup.now (g.D.Desk.number c.args.desk.now) n read.full (g.D.Desk.seen c.answer_line.new.desk)
    inv.goes.had.history (g.O.Device.told c.lines.out) (g.O.Device.told c.answer_line.new.out) after.On in
    let answer = subst B inv.line_number (subst A inv.number (c.in-On.ensures.turn inv.goes.had.history read.full inv.goes.had.seen_now same)) in
    let counted : c.lines.number + 1 ≡ first_call_line
    + length (inv.goes.turns ++ answer.turn ∷ []) = omega (arith, inv.line_number, length-next inv.goes.turns answer.turn) in
    record {
      rules = c.in-On.ensures.rules ∙ inv.rules;
      number = c.in-On.ensures.number ∙ inv.number;
      empty = c.emptied-line.ensures;
      line_number = counted;
      goes = goes-next _ _ _ _ _ _ _ _ _ inv.goes read.full read.bytes _ _ read.came read.is_line (g.O.Device.told c.answer_line.new.out)
          (Turns c.args.setup.now (g.D.Desk.number c.args.desk.now) (g.D.Desk.seen c.answer_line.new.desk)) answer.turn
          (had-next _ _ _ _ inv.goes.turns _ _ _ _ inv.goes.had answer) answer.message _ parts answer.goes answer.prints;
      reads = read_counts c.next_line-end.result _ _ none c.next_line-end.ensures.cause ∙ inv.reads;
      writes = c.in-On.ensures.counts ∙ inv.writes;
    }

pub returns-then-is_last-clause-replays : goal.returns-then-is_last-clause-replays
returns-then-is_last-clause-replays g c =
    let inv = c.lines.invariant in
    let read = c.next_line-end.ensures.read in
    let none = sym c.in_default.ensures in
    let parts = last_parts _ _ _ _ _ _ _ _ c.next_line-end.result (sym c.is_last.ensures ∙ c.if-is_last.true) read in
    let same = kept_step c.args.setup.now c.lines.number read.full
    ∙ ap (line_step c.args.setup.now c.lines.number) (sym (read.kept (not_starved c.next_line-end.result none))) in
    let A : ℕ → Type 0 = λ n. AnswersLine c.args.setup.now n c.lines.number read.full (g.D.Desk.seen c.answer_line.new.desk) inv.goes.had.history
    (g.O.Device.told c.lines.out) (g.O.Device.told c.answer_line.new.out) after.On in
    let B : ℕ → Type 0 = λ n. AnswersLine c.args.setup.now (g.D.Desk.number c.args.desk.now) n read.full (g.D.Desk.seen c.answer_line.new.desk)
    inv.goes.had.history (g.O.Device.told c.lines.out) (g.O.Device.told c.answer_line.new.out) after.On in
    let answer = subst B inv.line_number (subst A inv.number (c.in-On.ensures.turn inv.goes.had.history read.full inv.goes.had.seen_now same)) in
    turned-done _ _ _ _ _ _ _ _ _ inv.goes read.full read.bytes _ _ read.came read.is_line (g.O.Device.told c.answer_line.new.out)
    (Turns c.args.setup.now (g.D.Desk.number c.args.desk.now) (g.D.Desk.seen c.answer_line.new.desk)) answer.turn
    (had-next _ _ _ _ inv.goes.turns _ _ _ _ inv.goes.had answer) answer.message parts.0 parts.2 answer.goes answer.prints

pub returns-then-is_last-clause-reads : goal.returns-then-is_last-clause-reads
returns-then-is_last-clause-reads g c = read_counts c.next_line-end.result _ _ (sym c.in_default.ensures) c.next_line-end.ensures.cause
    ∙ c.lines.invariant.reads

pub returns-then-is_last-clause-took : goal.returns-then-is_last-clause-took
returns-then-is_last-clause-took g c =
    let last = sym c.is_last.ensures ∙ c.if-is_last.true in (
      last_counts c.next_line-end.result _ last c.next_line-end.ensures.full,
      (last_parts _ _ _ _ _ _ _ _ c.next_line-end.result last c.next_line-end.ensures.read).2,
    )

pub returns-in-Starved-clause-replays : goal.returns-in-Starved-clause-replays
returns-in-Starved-clause-replays g c =
    let inv = c.lines.invariant in
    let read = c.next_line-end.ensures.read in
    let none = sym c.in_default.ensures in
    let short = not_long c.next_line-end.result c.next_line-end.ensures.long in
    let same = kept_step c.args.setup.now c.lines.number read.full
    ∙ ap (line_step c.args.setup.now c.lines.number) (sym (read.kept (not_starved c.next_line-end.result none))) in
    let A : ℕ → Type 0 = λ n. AnswersLine c.args.setup.now n c.lines.number read.full (g.D.Desk.seen c.answer_line.new.desk) inv.goes.had.history
    (g.O.Device.told c.lines.out) (g.O.Device.told c.answer_line.new.out) after.Starved in
    let B : ℕ → Type 0 = λ n. AnswersLine c.args.setup.now (g.D.Desk.number c.args.desk.now) n read.full (g.D.Desk.seen c.answer_line.new.desk)
    inv.goes.had.history (g.O.Device.told c.lines.out) (g.O.Device.told c.answer_line.new.out) after.Starved in
    let answer = subst B inv.line_number (subst A inv.number (c.in-Starved.ensures.turn inv.goes.had.history read.full inv.goes.had.seen_now same)) in
    turned-starved _ _ _ _ _ _ _ _ _ inv.goes read.full read.bytes _ _ read.came read.is_line (g.O.Device.told c.answer_line.new.out)
    (Turns c.args.setup.now (g.D.Desk.number c.args.desk.now) (g.D.Desk.seen c.answer_line.new.desk)) answer.turn
    (had-next _ _ _ _ inv.goes.turns _ _ _ _ inv.goes.had answer) answer.message (line_later _ _ _ _ _ _ _ _ c.next_line-end.result none short read)
    answer.prints

pub returns-in-Starved-clause-reads : goal.returns-in-Starved-clause-reads
returns-in-Starved-clause-reads g c = read_counts c.next_line-end.result _ _ (sym c.in_default.ensures) c.next_line-end.ensures.cause ∙ c.lines.invariant.reads

pub returns-in-Cut-clause-replays : goal.returns-in-Cut-clause-replays
returns-in-Cut-clause-replays g c =
    let inv = c.lines.invariant in
    let read = c.next_line-end.ensures.read in
    let none = sym c.in_default.ensures in
    let short = not_long c.next_line-end.result c.next_line-end.ensures.long in
    let same = kept_step c.args.setup.now c.lines.number read.full
    ∙ ap (line_step c.args.setup.now c.lines.number) (sym (read.kept (not_starved c.next_line-end.result none))) in
    let A : ℕ → Type 0 = λ n. AnswersLine c.args.setup.now n c.lines.number read.full (g.D.Desk.seen c.answer_line.new.desk) inv.goes.had.history
    (g.O.Device.told c.lines.out) (g.O.Device.told c.answer_line.new.out) after.Cut in
    let B : ℕ → Type 0 = λ n. AnswersLine c.args.setup.now (g.D.Desk.number c.args.desk.now) n read.full (g.D.Desk.seen c.answer_line.new.desk)
    inv.goes.had.history (g.O.Device.told c.lines.out) (g.O.Device.told c.answer_line.new.out) after.Cut in
    let answer = subst B inv.line_number (subst A inv.number (c.in-Cut.ensures.turn inv.goes.had.history read.full inv.goes.had.seen_now same)) in
    turned-cut _ _ _ _ _ _ _ _ _ inv.goes read.full read.bytes _ _ read.came read.is_line (g.O.Device.told c.answer_line.new.out)
    (Turns c.args.setup.now (g.D.Desk.number c.args.desk.now) (g.D.Desk.seen c.answer_line.new.desk)) answer.turn
    (had-next _ _ _ _ inv.goes.turns _ _ _ _ inv.goes.had answer) answer.message (line_later _ _ _ _ _ _ _ _ c.next_line-end.result none short read)
    answer.prints

pub returns-in-Cut-clause-reads : goal.returns-in-Cut-clause-reads
returns-in-Cut-clause-reads g c = read_counts c.next_line-end.result _ _ (sym c.in_default.ensures) c.next_line-end.ensures.cause ∙ c.lines.invariant.reads
