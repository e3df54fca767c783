use Rattle.std.proofs.Common.{◌∙◌, ℕ, List, ◌++◌, sym, subst, arith}
use Rattle.command_inputs.specs.Reading.{held_by, Came}
use Rattle.command_inputs.proofs.Reading.{came-more}
use Rattle.command_inputs.proofs.whole_input.read_input.Goals as goal

pub loop-reader-preserved : goal.loop-reader-preserved
loop-reader-preserved g c =
    let comes = c.in-More.ensures.0 in
    let moves = c.in-Ok.ensures.moves in
    let P : List ℕ → Type 0 = λ text. Came text 0 c.take_all.new.self.taken (g.S.Device.told c.args.source.now) (g.S.Device.told c.refill.new.source) in
    record {
      held = moves.0;
      came = subst P (sym moves.1) (came-more _ _ _ _ _ _ _ _ c.loop-reader.invariant.came comes.takes (c.in-Ok.ensures.taken ∙ comes.counted));
      same = c.in-More.ensures.1 ∙ c.loop-reader.invariant.same;
    }

pub returns-in-Err-clause-read : goal.returns-in-Err-clause-read
returns-in-Err-clause-read g c =
    let comes = c.in-More.ensures.0 in
    let more = came-more _ _ _ _ _ _ _ _ c.loop-reader.invariant.came comes.takes comes.counted in
    record {
      bytes = c.loop-reader.text
          ++ held_by c.refill.new.self;
      takes = more.takes;
      most = omega (arith, more.counted, c.refill.new.self.limited);
      ends = tt;
    }
