use Rattle.std.proofs.Common.{◌∙◌, List, ℕ, subst}
use Rattle.std.specs.Prelude.{option_copied}
use Rattle.std.specs.Borrow.{Bor}
use Rattle.bytes_and_lists.specs.Prefixes.{IsPrefix}
use Rattle.outside.specs.Outside.{Writes}
use Rattle.command_words.specs.Hints.{line_for}
use Rattle.command_words.proofs.ToldTexts.{bytes_of, item_begun, item_written, items_told}
use Rattle.command_words.proofs.word_hints.tell_with_lines.Goals as goal

pub returns-in-Err-write_all : goal.returns-in-Err-write_all
returns-in-Err-write_all g c =
    let told = g.E.Device.told in
    item_begun (λ (line : Bor (List ℕ)). line_for (option_copied c.args.name) line.now) (bytes_of c.args.pieces.now) c.args.lines.now
    c.loop-line.line-index _ _ _ _ _ _ _ c.loop-line-test.true c.loop-line.invariant.written c.loop-line.invariant.same
    (subst (λ (t : List ℕ). (sent : List ℕ) × IsPrefix sent t × Writes sent (told c.loop-line.err) (told c.write_all.new.out)) c.line_for.ensures
    c.in-Err-write_all.ensures.sent)
    c.in-Err-write_all.ensures.cause.failed c.in-Err-write_all.ensures.cause.later

pub loop-line-preserved : goal.loop-line-preserved
loop-line-preserved g c =
    let told = g.E.Device.told in
    record {
      written = item_written (λ (line : Bor (List ℕ)). line_for (option_copied c.args.name) line.now) (bytes_of c.args.pieces.now) c.args.lines.now
          c.loop-line.line-index _ _ _ _ c.loop-line-test.true c.loop-line.invariant.written
          (subst (λ (t : List ℕ). Writes t (told c.loop-line.err) (told c.write_all.new.out)) c.line_for.ensures c.in_default-write_all.ensures.sent);
      same = c.in_default-write_all.ensures.cause.same ∙ c.loop-line.invariant.same;
    }

pub returns : goal.returns
returns g c =
    items_told (λ (line : Bor (List ℕ)). line_for (option_copied c.args.name) line.now) (bytes_of c.args.pieces.now) c.args.lines.now
    c.loop-line.line-index _ _ _ _ c.loop-line-test.false c.loop-line.invariant.written c.loop-line.invariant.same
