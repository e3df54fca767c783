use Rattle.std.proofs.Common.{◌∙◌, ◌++◌, ◌∷◌, [], append_assoc, ap, sym, length, length-append, arith}
use Rattle.std.specs.Vec.Iter.{into_iter_items}
use Rattle.table_core.specs.Plans.{rows_in}
use Rattle.table_core.proofs.Rising.{free_after, row_comes, row_above, row_issued, rows_below}
use Rattle.table_core.proofs.carrying.issue_all.Goals as goal

pub issue-requires-clause-is : goal.issue-requires-clause-is
issue-requires-clause-is c =
    let i = c.loop-row.invariant in
    (row_comes c.args.first c.loop-row.yielded (into_iter_items c.next.new.self) c.args.rows c.in-Some.row
    (ap (λ l. c.loop-row.yielded ++ l) (sym c.in-Some.ensures.steps.0) ∙ i.2) c.requires.rise).0

pub issue-requires-clause-above : goal.issue-requires-clause-above
issue-requires-clause-above c =
    let i = c.loop-row.invariant in
    let comes = row_comes c.args.first c.loop-row.yielded (into_iter_items c.next.new.self) c.args.rows c.in-Some.row
    (ap (λ l. c.loop-row.yielded ++ l) (sym c.in-Some.ensures.steps.0) ∙ i.2) c.requires.rise in
    row_above c.loop-row.tokens.rows (free_after c.args.first (rows_in c.loop-row.yielded)) c.in-Some.row.value.serial comes.1 i.6

pub loop-row-preserved : goal.loop-row-preserved
loop-row-preserved c =
    let i = c.loop-row.invariant in
    let row = c.in-Some.row in
    let yielded = c.loop-row.yielded in
    let more = into_iter_items c.next.new.self in
    let whole = ap (λ l. yielded ++ l) (sym c.in-Some.ensures.steps.0) ∙ i.2 in
    let comes = row_comes c.args.first yielded more c.args.rows row whole c.requires.rise in
    let size = length-append yielded (row ∷ []) in (
      tt,
      tt,
      append_assoc yielded (row ∷ []) more ∙ whole,
      (let a = c.in-Some.ensures.steps.1 in let b = ap length c.in-Some.ensures.steps.0 in let d = i.3 in omega (arith, a, b, d)),
      row_issued c.args.first c.args.tokens.now.rows c.loop-row.tokens.rows c.issue.new.self.rows yielded row i.4 c.issue.ensures.rows,
      (let a = i.5 in let b = c.issue.ensures.spare in omega (arith, a, b, size)),
      rows_below c.args.first c.loop-row.tokens.rows c.issue.new.self.rows yielded row comes.1 i.6 c.issue.ensures.rows,
    )
