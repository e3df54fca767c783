use Rattle.std.proofs.Common.{rules, ◌∙◌, ◌+◌, ◌-◌, length, refl, subst}
use Rattle.std.specs.Prelude.{Bool}
use Rattle.command_inputs.specs.Reading.{held_by, MovesPart}
use Rattle.command_inputs.proofs.Reading.{gathers-start, reads-whole, gathers-part, reads-starved, gathers-more, reads-last, reads-long, reads-full, reads-failed}
use Rattle.command_inputs.proofs.line_reader.LineReader.next_line.Goals as goal

pub loop-line-init : goal.loop-line-init
loop-line-init g c = record {
  short = search rules;
  gathers = gathers-start _ _ _ _ _ c.requires.empty;
  same = refl;
}

pub returns-in-Ok-true-clause-read : goal.returns-in-Ok-true-clause-read
returns-in-Ok-true-clause-read g c =
    let M : Bool → Type 0 = λ b. MovesPart (c.args.limit + 1 - length c.loop-line.line) b (held_by c.loop-line.self) (held_by c.take_held.new.self)
    c.loop-line.line c.take_held.new.line in
    let moves = subst M c.in-Ok-true.field-0-test c.in-Ok-true.ensures.moves in
    reads-whole _ _ _ _ _ _ _ _ c.loop-line.invariant.gathers _ _ _ c.in-Ok-true.ensures.taken moves

pub returns-in-Err-clause-read : goal.returns-in-Err-clause-read
returns-in-Err-clause-read g c = reads-starved _ _ _ _ _ _ _ _ c.loop-line.invariant.gathers _ _ _ _ c.in-Err.ensures.taken refl

pub returns-then-len-limit-clause-read : goal.returns-then-len-limit-clause-read
returns-then-len-limit-clause-read g c =
    let M : Bool → Type 0 = λ b. MovesPart (c.args.limit + 1 - length c.loop-line.line) b (held_by c.loop-line.self) (held_by c.take_held.new.self)
    c.loop-line.line c.take_held.new.line in
    let moves = subst M c.in-Ok-false.field-0-test c.in-Ok-false.ensures.moves in
    reads-long _ _ _ _ _ _ _ _ (gathers-part _ _ _ _ _ _ _ _ c.loop-line.invariant.gathers _ _ _ c.in-Ok-false.ensures.taken moves)

pub loop-line-preserved : goal.loop-line-preserved
loop-line-preserved g c =
    let M : Bool → Type 0 = λ b. MovesPart (c.args.limit + 1 - length c.loop-line.line) b (held_by c.loop-line.self) (held_by c.take_held.new.self)
    c.loop-line.line c.take_held.new.line in
    let moves = subst M c.in-Ok-false.field-0-test c.in-Ok-false.ensures.moves in
    let comes = c.in-More.ensures.0 in
    record {
      short = c.in-Ok-false.ensures.short;
      gathers = gathers-more _ _ _ _ _ _ _ _ (gathers-part _ _ _ _ _ _ _ _ c.loop-line.invariant.gathers _ _ _ c.in-Ok-false.ensures.taken moves) _ _ _
          moves.is_next.1 comes.takes comes.counted;
      same = c.in-More.ensures.1 ∙ c.loop-line.invariant.same;
    }

pub returns-in-End-clause-read : goal.returns-in-End-clause-read
returns-in-End-clause-read g c =
    let M : Bool → Type 0 = λ b. MovesPart (c.args.limit + 1 - length c.loop-line.line) b (held_by c.loop-line.self) (held_by c.take_held.new.self)
    c.loop-line.line c.take_held.new.line in
    let moves = subst M c.in-Ok-false.field-0-test c.in-Ok-false.ensures.moves in
    let end = c.in-End.ensures in
    reads-last _ _ _ _ _ _ _ _ (gathers-part _ _ _ _ _ _ _ _ c.loop-line.invariant.gathers _ _ _ c.in-Ok-false.ensures.taken moves) _ _ _ moves.is_next.1 end.0
    end.1 end.2.held end.2.taken

pub returns-in-Full-clause-read : goal.returns-in-Full-clause-read
returns-in-Full-clause-read g c =
    let M : Bool → Type 0 = λ b. MovesPart (c.args.limit + 1 - length c.loop-line.line) b (held_by c.loop-line.self) (held_by c.take_held.new.self)
    c.loop-line.line c.take_held.new.line in
    let moves = subst M c.in-Ok-false.field-0-test c.in-Ok-false.ensures.moves in
    let full = c.in-Full.ensures in
    reads-full _ _ _ _ _ _ _ _ (gathers-part _ _ _ _ _ _ _ _ c.loop-line.invariant.gathers _ _ _ c.in-Ok-false.ensures.taken moves) _ _ _ moves.is_next.1
    full.1.held full.1.taken full.0

pub returns-in-Failed-clause-read : goal.returns-in-Failed-clause-read
returns-in-Failed-clause-read g c =
    let M : Bool → Type 0 = λ b. MovesPart (c.args.limit + 1 - length c.loop-line.line) b (held_by c.loop-line.self) (held_by c.take_held.new.self)
    c.loop-line.line c.take_held.new.line in
    let moves = subst M c.in-Ok-false.field-0-test c.in-Ok-false.ensures.moves in
    let failed = c.in-Failed.ensures in
    reads-failed _ _ _ _ _ _ _ _ (gathers-part _ _ _ _ _ _ _ _ c.loop-line.invariant.gathers _ _ _ c.in-Ok-false.ensures.taken moves) _ _ _ moves.is_next.1
    failed.1.held failed.1.taken failed.0

pub returns-in-Memory-clause-read : goal.returns-in-Memory-clause-read
returns-in-Memory-clause-read g c =
    let M : Bool → Type 0 = λ b. MovesPart (c.args.limit + 1 - length c.loop-line.line) b (held_by c.loop-line.self) (held_by c.take_held.new.self)
    c.loop-line.line c.take_held.new.line in
    let moves = subst M c.in-Ok-false.field-0-test c.in-Ok-false.ensures.moves in
    let starved = c.in-Memory.ensures in
    reads-starved _ _ _ _ _ _ _ _ (gathers-part _ _ _ _ _ _ _ _ c.loop-line.invariant.gathers _ _ _ c.in-Ok-false.ensures.taken moves) _ _ _ _ starved.1.taken
    starved.0
