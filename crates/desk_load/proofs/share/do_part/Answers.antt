use Rattle.std.proofs.Common.{sym, subst}
use Rattle.std.specs.Prelude.{IfOk}
use Rattle.desk_load.specs.Loads.{PutsThrough, IsPart}
use Rattle.desk_load.proofs.Growing.{part-none}
use Rattle.desk_load.proofs.share.do_part.Goals as goal

pub returns-then-mine-clause-does : goal.returns-then-mine-clause-does
returns-then-mine-clause-does g c =
    let D = g.D.Desk in
    subst (λ b. IfOk c.put_through.result (λ _. (h : _) → D.seen c.args.desk.now h
    → PutsThrough (IsPart b c.args.grant) (D.number c.args.desk.now) (D.seen c.put_through.new.desk) h c.args.progress.now c.put_through.new.progress))
    (sym c.if-mine.true) c.put_through.ensures.puts

pub returns-clause-does : goal.returns-clause-does
returns-clause-does g c = λ h s.
    let D = g.D.Desk in
    subst (λ b. PutsThrough (IsPart b c.args.grant) (D.number c.args.desk.now) (D.seen c.args.desk.now) h c.args.progress.now c.args.progress.now)
    (sym c.if-mine.false) (part-none c.args.grant (D.number c.args.desk.now) (D.seen c.args.desk.now) h c.args.progress.now s)
