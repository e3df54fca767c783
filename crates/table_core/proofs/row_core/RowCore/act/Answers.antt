use Rattle.std.proofs.Common.{arith, ap, refl}
use Rattle.std.proofs.lemmas.Result.{err_from_is_err_and}
use Rattle.gnap_tables.specs.Tables.{Tables}
use Rattle.table_core.proofs.Stepping.{kept_with}
use Rattle.table_core.proofs.row_core.RowCore.act.Goals as goal

pub overflow_add-self : goal.overflow_add-self
overflow_add-self c =
    let small = c.requires.room.next_small in
    let few = c.in_ok-answered.ensures.few.0 in omega (arith, small, few)

pub overflow_add-self-2 : goal.overflow_add-self-2
overflow_add-self-2 c =
    let small = c.requires.room.first_small in
    let few = c.in_ok-answered.ensures.few.1 in omega (arith, small, few)

pub returns-in_err-answered-clause-err : goal.returns-in_err-answered-clause-err
returns-in_err-answered-clause-err c =
    let s = c.args.self.now in
    let p = err_from_is_err_and c.from_residual.result c.from_residual.ensures.1 in
    rw p.1 (ap (λ (t : Tables). kept_with t s.next s.first s.latest) c.in_err-answered.ensures.err, c.in_err-answered.ensures.err_doors)

pub returns-clause-ok : goal.returns-clause-ok
returns-clause-ok c = (
  record { answered = c.in_ok-answered.answered; replies = refl; acts = c.in_ok-answered.ensures.ok; next = refl; first = refl },
  c.in_ok-answered.ensures.doors,
)
